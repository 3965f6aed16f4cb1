-- What a plan stands for, by the joins of its fields.
use Rattle.std.proofs.Common.{◌≡◌, List, map, Option, refl, sym, ◌∙◌, subst}
use Rattle.std.specs.List.{AllZip}
use Rattle.schema_model.specs.Catalogue.{CatalogueValue}
use Rattle.view_def.specs.Query.{Query}
use Rattle.join_delta.specs.Joins.{JoinValue}
use Rattle.plan_law.specs.Chain.{Joint, SideMoves}
use Rattle.plan_law.specs.PlanRows.{plan_joints, first_rows, further_rows}
use Rattle.plan_translate.specs.ChainStages.{joint_in, sides_in, side_moves}
use Rattle.plan_translate.specs.declared.plan.Plan.TheInside.{Inside}
use Rattle.plan_translate.specs.Read.{is_read}
use Rattle.plan_translate.specs.Moves.{MovesChain, MovesSides}
use Rattle.plan_translate.specs.Plans.{PlanValue, query_in, JoinsStand, PlanStands, StandsAs}
use Rattle.plan_translate.specs.PlanFields.{query_inside, seen, IsPlan}
use Rattle.plan_translate.specs.Sides.{LikeJoin, CanMove, AllMoved}
use Rattle.plan_translate.proofs.Each.{Pair}
use Rattle.plan_translate.proofs.Stages.{moved_joints, like_joints}
use Rattle.plan_translate.proofs.Lefts.{KeptBy, can_either, moved_either, like_either}

module _ (i : Inside) (is : IsPlan i) where
  abbrev q : Query
  q = query_inside i

  abbrev joins : List JoinValue
  joins = i.joins.items

  kept_in : (c : CatalogueValue) → JoinsStand c q (map sides_in joins) → KeptBy (is_read q) (map joint_in joins) (first_rows c q q.decls) (further_rows c q q.decls) joins
  kept_in c stands =
      subst (λ (js : List Joint). KeptBy (is_read q) js (first_rows c q q.decls) (further_rows c q q.decls) joins) (sym is.joints) (stands.sides, stands.keeps, stands.kept_are)

  stand_in : (c : CatalogueValue) (joins' : List JoinValue) → KeptBy (is_read q) (map joint_in joins) (first_rows c q q.decls) (further_rows c q q.decls) joins' → JoinsStand c q (map sides_in joins')
  stand_in c joins' kept =
      let all = subst (λ (js : List Joint). KeptBy (is_read q) js (first_rows c q q.decls) (further_rows c q q.decls) joins') is.joints kept in
      record { sides = all.0; keeps = all.1; kept_are = all.2 }

  -- the moves of the chain
  module _ (c c' : CatalogueValue) (ms : List Pair) (moves : MovesSides c c' q (map side_moves ms)) where
    chain_in : MovesChain (map joint_in joins) (first_rows c q q.decls) (further_rows c q q.decls) moves.moves (first_rows c' q q.decls) (further_rows c' q q.decls)
    chain_in =
        subst (λ (js : List Joint). MovesChain js (first_rows c q q.decls) (further_rows c q q.decls) moves.moves (first_rows c' q q.decls) (further_rows c' q q.decls)) (sym is.joints) moves.chain

    -- each join can go where the moves take what it stands for
    can_here : JoinsStand c q (map sides_in joins) → AllZip CanMove joins ms
    can_here stands =
        can_either joins (first_rows c q q.decls) (further_rows c q q.decls) (is_read q) (kept_in c stands) (first_rows c' q q.decls) (further_rows c' q q.decls) ms moves.moves chain_in moves.kept

    -- joins that went there stand for the catalogue after it
    stands_here : (joins' : List JoinValue) → AllMoved joins ms joins' → JoinsStand c q (map sides_in joins) → JoinsStand c' q (map sides_in joins')
    stands_here joins' all stands =
        stand_in c' joins'
        (moved_either joins (first_rows c q q.decls) (further_rows c q q.decls) (is_read q) (kept_in c stands) joins' (first_rows c' q q.decls) (further_rows c' q q.decls) ms moves.moves all chain_in moves.kept)

  like_here : (joins' : List JoinValue) → AllZip LikeJoin joins joins' → (c : CatalogueValue) → JoinsStand c q (map sides_in joins) → JoinsStand c q (map sides_in joins')
  like_here joins' all c stands =
      stand_in c joins' (like_either joins (first_rows c q q.decls) (further_rows c q q.decls) (is_read q) (kept_in c stands) joins' all)

  pub joints_on : (ms : List Pair) (joins' : List JoinValue) → AllMoved joins ms joins' → map joint_in joins' ≡ plan_joints q q.decls
  joints_on ms joins' all = moved_joints joins joins' ms all ∙ is.joints

  pub joints_alike : (joins' : List JoinValue) → AllZip LikeJoin joins joins' → map joint_in joins' ≡ plan_joints q q.decls
  joints_alike joins' all = like_joints joins joins' all ∙ is.joints

  -- as the value says it
  module _ (p : PlanValue) (view : seen i ≡ p) where
    pub all_can : (ms : List Pair) (ps : List SideMoves) → map side_moves ms ≡ ps → (c c' : CatalogueValue) → PlanStands c p → MovesSides c c' (query_in p) ps → AllZip CanMove joins ms
    all_can ms ps of c c' stands moves =
        let here = subst (λ (p : PlanValue). MovesSides c c' (query_in p) (map side_moves ms)) (sym view) (subst (MovesSides c c' (query_in p)) (sym of) moves) in
        can_here c c' ms here (subst (PlanStands c) (sym view) stands)

    pub stands_on : (ms : List Pair) (ps : List SideMoves) → map side_moves ms ≡ ps → (joins' : List JoinValue) → AllMoved joins ms joins'
        → (c c' : CatalogueValue) → PlanStands c p → MovesSides c c' (query_in p) ps → JoinsStand c' q (map sides_in joins')
    stands_on ms ps of joins' all c c' stands moves =
        let here = subst (λ (p : PlanValue). MovesSides c c' (query_in p) (map side_moves ms)) (sym view) (subst (MovesSides c c' (query_in p)) (sym of) moves) in
        stands_here c c' ms here joins' all (subst (PlanStands c) (sym view) stands)

    -- joins that are alike stand for the same
    pub stands_as : (joins' : List JoinValue) (waiting : Option (List SideMoves)) → AllZip LikeJoin joins joins' → StandsAs p (record { view = i.view.value; sides = map sides_in joins'; waiting = waiting })
    stands_as joins' waiting all =
        let here : StandsAs (seen i) (record { view = i.view.value; sides = map sides_in joins'; waiting = waiting }) = record { view = refl; stands = like_here joins' all } in
        subst (λ (p : PlanValue). StandsAs p (record { view = i.view.value; sides = map sides_in joins'; waiting = waiting })) view here
