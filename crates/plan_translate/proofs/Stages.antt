-- What a walk does to both sides of each join, and what they keep then.
use Rattle.std.proofs.Common.{◌≡◌, ℕ, suc, List, [], ◌∷◌, length, map, ◌++◌, refl, ap, sym, ◌∙◌, subst, arith}
use Rattle.std.specs.List.{AllZip}
use Rattle.ss_text.specs.Texts.{Row}
use Rattle.schema_model.specs.Catalogue.{CatalogueValue}
use Rattle.schema_model.specs.Sound.{IsSound}
use Rattle.plan_law.specs.Kinds.{Term, Range}
use Rattle.plan_law.specs.Kinds.range
use Rattle.view_def.specs.Query.{Query}
use Rattle.view_def.specs.Profile.{IsViewOfProfile}
use Rattle.operator_law.specs.declared.delta.Signed.{Signed}
use Rattle.operator_law.specs.Bags.{MovesBag}
use Rattle.operator_law.proofs.SignedRows.{moves_filtered}
use Rattle.schema_delta.specs.declared.spec.FlatSpec.{FlatSpec}
use Rattle.schema_delta.specs.Flat.{flat}
use Rattle.join_delta.specs.Joined.{matches}
use Rattle.join_delta.specs.Joins.{JoinValue}
use Rattle.plan_law.specs.Columns.{header, spec_of}
use Rattle.plan_law.specs.Links.{own_holds}
use Rattle.plan_law.specs.Chain.{Joint, Sides, SideMoves, joint_rows, Keeps, EachMoved, Walks}
use Rattle.plan_law.specs.Laws.{IsWalk}
use Rattle.plan_law.specs.PlanRows.{specs_from, own_rows, rows_from, joints_from, plan_joints, first_rows, further_rows}
use Rattle.plan_law.specs.PlanMoves.{own_moves, moves_from, first_moves, further_moves, fact_rows, fact_moves}
use Rattle.plan_law.proofs.First.{First, first_of}
use Rattle.schema_delta.proofs.NetLaw.{moves_net}
use Rattle.plan_law.proofs.ChainLaw.{joint_moved}
use Rattle.plan_law.proofs.PlanLaws.{facts_move}
use Rattle.plan_translate.specs.ChainStages.{joint_in, sides_in, side_moves}
use Rattle.plan_translate.specs.Moves.{MovesChain, MovesAll}
use Rattle.plan_translate.specs.Plans.{PlanMoveValue, PlanMoves}
use Rattle.plan_translate.specs.Walked.{Walked}
use Rattle.plan_translate.specs.Sides.{SameKeys, LikeJoin, CanMove, AllMoved}

-- the sides' moves of a walk take what comes to each join to what comes to it after the change
walk_moves : (js : List Joint) (ks : List Sides) (xs xs' : List Row) (yss yss' : List (List Row)) (ms out : List Signed) (nss : List (List Signed)) (ps : List SideMoves)
    → length ps ≡ length js → Keeps js xs yss ks → MovesBag xs ms xs' → EachMoved yss nss yss' → Walks js ks ms nss ps out → MovesChain js xs yss ps xs' yss'
walk_moves [] ks xs xs' yss yss' ms out nss [] long keeps mx each walk = tt
walk_moves [] ks xs xs' yss yss' ms out nss (p ∷ ps) long keeps mx each walk = absurd (omega (arith, long))
walk_moves (j ∷ js) ks xs xs' [] yss' ms out nss ps long keeps mx each walk = absurd keeps
walk_moves (j ∷ js) [] xs xs' (ys ∷ yss) yss' ms out nss ps long keeps mx each walk = absurd keeps
walk_moves (j ∷ js) (k ∷ ks) xs xs' (ys ∷ yss) yss' ms out [] ps long keeps mx each walk = absurd each
walk_moves (j ∷ js) (k ∷ ks) xs xs' (ys ∷ yss) [] ms out (ns ∷ nss) ps long keeps mx each walk = absurd each
walk_moves (j ∷ js) (k ∷ ks) xs xs' (ys ∷ yss) (ys' ∷ yss') ms out (ns ∷ nss) [] long keeps mx each walk = absurd walk
walk_moves (j ∷ js) (k ∷ ks) xs xs' (ys ∷ yss) (ys' ∷ yss') ms out (ns ∷ nss) (p ∷ ps) long keeps mx each walk = (
  subst (λ (p : SideMoves). MovesBag xs p.left xs') (sym walk.0) mx,
  subst (λ (p : SideMoves). MovesBag ys p.right ys') (sym walk.0) each.0,
  walk_moves js ks (joint_rows j xs ys) (joint_rows j xs' ys') yss yss' walk.1.0 out nss ps (omega (arith, long)) keeps.2
      (joint_moved j k xs ys xs' ys' ms ns walk.1.0 keeps.0 keeps.1 mx each.0 walk.1.1) each.1 walk.1.2,
)

-- at a plan
module _ (c c' : CatalogueValue) (q : Query) where
  abbrev FlatMoves : FlatSpec → List Signed → Type 0
  FlatMoves s ms = MovesBag (flat c s) ms (flat c' s)

  own_moved : (h : List Term) (k : ℕ) (d : Range) (ms : List Signed) → FlatMoves (spec_of q k d) ms → MovesBag (own_rows c q h k d) (own_moves q h (header q k d) ms) (own_rows c' q h k d)
  own_moved h k d ms moved = moves_filtered (own_holds q h (header q k d)) ms (flat c (spec_of q k d)) (flat c' (spec_of q k d)) moved

  rows_moved : (ds : List Range) (h : List Term) (k : ℕ) (deltas : List (List Signed)) → AllZip FlatMoves (specs_from q k ds) deltas → EachMoved (rows_from c q h k ds) (moves_from q h k ds deltas) (rows_from c' q h k ds)
  rows_moved [] h k deltas moved = tt
  rows_moved (range.Alias j a ∷ ds) h k deltas moved = rows_moved ds h (suc k) deltas moved
  rows_moved (d ∷ ds) h k [] moved = absurd moved
  rows_moved (d ∷ ds) h k (ms ∷ deltas) moved = (own_moved h k d ms moved.0, rows_moved ds (h ++ header q k d) (suc k) deltas moved.1)

  module _ (ks : List Sides) (ps : List SideMoves) (out : List Signed) where
    abbrev ChainAt : List Range → Type 0
    ChainAt ds = MovesChain (plan_joints q ds) (first_rows c q ds) (further_rows c q ds) ps (first_rows c' q ds) (further_rows c' q ds)

    from_first : (d : Range) (ds : List Range) (deltas : List (List Signed)) → length ps ≡ length (plan_joints q (d ∷ ds)) → AllZip FlatMoves (spec_of q 0 d ∷ specs_from q 1 ds) deltas
        → Keeps (plan_joints q (d ∷ ds)) (first_rows c q (d ∷ ds)) (further_rows c q (d ∷ ds)) ks
        → Walks (plan_joints q (d ∷ ds)) ks (first_moves q (d ∷ ds) deltas) (further_moves q (d ∷ ds) deltas) ps out → ChainAt (d ∷ ds)
    from_first d ds [] long moved keeps walks = absurd moved
    from_first d ds (ms ∷ deltas) long moved keeps walks =
        walk_moves (joints_from q (header q 0 d) 1 ds) ks (own_rows c q [] 0 d) (own_rows c' q [] 0 d) (rows_from c q (header q 0 d) 1 ds) (rows_from c' q (header q 0 d) 1 ds)
        (own_moves q [] (header q 0 d) ms) out (moves_from q (header q 0 d) 1 ds deltas) ps
        long keeps (own_moved [] 0 d ms moved.0) (rows_moved ds (header q 0 d) 1 deltas moved.1) walks

    sides_moved : First q → length ps ≡ length (plan_joints q q.decls) → IsWalk c c' q ks ps out → MovesAll c c' q ps
    sides_moved b long w =
        let moved = subst (λ (ss : List FlatSpec). AllZip FlatMoves ss w.deltas) b.specs (subst (λ (ds : List Range). AllZip FlatMoves (specs_from q 0 ds) w.deltas) b.all w.moved) in
        let keeps = subst (λ (ds : List Range). Keeps (plan_joints q ds) (first_rows c q ds) (further_rows c q ds) ks) b.all w.stands in
        let walks = subst (λ (ds : List Range). Walks (plan_joints q ds) ks (first_moves q ds w.deltas) (further_moves q ds w.deltas) ps out) b.all w.walks in
        let long' = subst (λ (ds : List Range). length ps ≡ length (plan_joints q ds)) b.all long in
        subst ChainAt (sym b.all) (from_first b.first b.rest w.deltas long' moved keeps walks)

-- so a walk gives moves of the plan
pub plan_moves : (c c' : CatalogueValue) (q : Query) (m : PlanMoveValue) (old new : ℕ) → IsSound c → IsSound c' → IsViewOfProfile q → Walked c c' q m old new → PlanMoves c c' q m
plan_moves c c' q m old new sound sound' profile w =
    let facts = facts_move c c' q w.sides w.moves w.out sound sound' profile w.walk in
    record {
      sides = record { moves = w.moves; chain = sides_moved c c' q w.sides w.moves w.out (first_of q profile) w.each w.walk; kept = w.kept };
      facts = record { moved = moves_net (fact_rows c q) (fact_rows c' q) (fact_moves q w.out) m.facts facts w.facts; net = w.facts_net };
    }

-- ---- the joins that keep the sides
joint_same : (a b : JoinValue) → SameKeys a b → joint_in b ≡ joint_in a
joint_same a b same =
    ap (λ (k : List ℕ). record { keys = matches k b.right_key; passes = (joint_in b).passes }) same.left
    ∙ ap (λ (k : List ℕ). record { keys = matches a.left_key k; passes = (joint_in b).passes }) same.right

two_same : (j j' : Joint) (js js' : List Joint) → j ≡ j' → js ≡ js' → (j ∷ js) ≡ (j' ∷ js')
two_same j j' js js' e f = ap (λ (x : Joint). x ∷ js) e ∙ ap (λ (xs : List Joint). j' ∷ xs) f

-- they can go where a walk takes them
pub can_move : (joins : List JoinValue) (xs xs' : List Row) (yss yss' : List (List Row)) (ms : List (List Signed × List Signed))
    → Keeps (map joint_in joins) xs yss (map sides_in joins) → MovesChain (map joint_in joins) xs yss (map side_moves ms) xs' yss' → AllZip CanMove joins ms
can_move [] xs xs' yss yss' [] keeps moves = tt
can_move [] xs xs' yss yss' (m ∷ ms) keeps moves = absurd moves
can_move (j ∷ joins) xs xs' [] yss' ms keeps moves = absurd keeps
can_move (j ∷ joins) xs xs' (ys ∷ yss) yss' [] keeps moves = absurd moves
can_move (j ∷ joins) xs xs' (ys ∷ yss) [] (m ∷ ms) keeps moves = absurd moves
can_move (j ∷ joins) xs xs' (ys ∷ yss) (ys' ∷ yss') (m ∷ ms) keeps moves = (
  record { left_rows = xs'; right_rows = ys'; left = λ f. omega (arith, keeps.0 f, moves.0 f); right = λ f. omega (arith, keeps.1 f, moves.1 f) },
  can_move joins (joint_rows (joint_in j) xs ys) (joint_rows (joint_in j) xs' ys') yss yss' ms keeps.2 moves.2,
)

-- where they went there they keep what comes to them after the change
pub keeps_on : (joins joins' : List JoinValue) (xs xs' : List Row) (yss yss' : List (List Row)) (ms : List (List Signed × List Signed)) → AllMoved joins ms joins'
    → Keeps (map joint_in joins) xs yss (map sides_in joins) → MovesChain (map joint_in joins) xs yss (map side_moves ms) xs' yss' → Keeps (map joint_in joins) xs' yss' (map sides_in joins')
keeps_on [] joins' xs xs' yss yss' ms all keeps moves = tt
keeps_on (j ∷ joins) joins' xs xs' [] yss' ms all keeps moves = absurd keeps
keeps_on (j ∷ joins) joins' xs xs' (ys ∷ yss) yss' [] all keeps moves = absurd moves
keeps_on (j ∷ joins) joins' xs xs' (ys ∷ yss) [] (m ∷ ms) all keeps moves = absurd moves
keeps_on (j ∷ joins) [] xs xs' (ys ∷ yss) (ys' ∷ yss') (m ∷ ms) all keeps moves = absurd all
keeps_on (j ∷ joins) (j' ∷ joins') xs xs' (ys ∷ yss) (ys' ∷ yss') (m ∷ ms) all keeps moves =
    let both = all.0.sides xs' ys' (λ f. omega (arith, keeps.0 f, moves.0 f)) (λ f. omega (arith, keeps.1 f, moves.1 f)) in
    (both.0, both.1, keeps_on joins joins' (joint_rows (joint_in j) xs ys) (joint_rows (joint_in j) xs' ys') yss yss' ms all.1 keeps.2 moves.2)

pub moved_joints : (joins joins' : List JoinValue) (ms : List (List Signed × List Signed)) → AllMoved joins ms joins' → map joint_in joins' ≡ map joint_in joins
moved_joints [] [] [] all = refl
moved_joints [] (j' ∷ joins') [] all = absurd all
moved_joints [] joins' (m ∷ ms) all = absurd all
moved_joints (j ∷ joins) joins' [] all = absurd all
moved_joints (j ∷ joins) [] (m ∷ ms) all = absurd all
moved_joints (j ∷ joins) (j' ∷ joins') (m ∷ ms) all = two_same (joint_in j') (joint_in j) (map joint_in joins') (map joint_in joins) (joint_same j j' all.0.keys) (moved_joints joins joins' ms all.1)

-- joins that are alike keep the same
pub like_joints : (joins joins' : List JoinValue) → AllZip LikeJoin joins joins' → map joint_in joins' ≡ map joint_in joins
like_joints [] [] all = refl
like_joints [] (j' ∷ joins') all = absurd all
like_joints (j ∷ joins) [] all = absurd all
like_joints (j ∷ joins) (j' ∷ joins') all = two_same (joint_in j') (joint_in j) (map joint_in joins') (map joint_in joins) (joint_same j j' all.0.keys) (like_joints joins joins' all.1)

pub like_keeps : (js : List Joint) (joins joins' : List JoinValue) (xs : List Row) (yss : List (List Row)) → AllZip LikeJoin joins joins' → Keeps js xs yss (map sides_in joins) → Keeps js xs yss (map sides_in joins')
like_keeps [] joins joins' xs yss all keeps = tt
like_keeps (j ∷ js) joins joins' xs [] all keeps = absurd keeps
like_keeps (j ∷ js) [] joins' xs (ys ∷ yss) all keeps = absurd keeps
like_keeps (j ∷ js) (k ∷ joins) [] xs (ys ∷ yss) all keeps = absurd all
like_keeps (j ∷ js) (k ∷ joins) (k' ∷ joins') xs (ys ∷ yss) all keeps =
    (λ f. keeps.0 f ∙ all.0.left f, λ f. keeps.1 f ∙ all.0.right f, like_keeps js joins joins' (joint_rows j xs ys) yss all.1 keeps.2)
