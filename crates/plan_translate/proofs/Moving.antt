-- What the fields of a plan say of its value, and how it comes to its moves.
use Rattle.std.proofs.Common.{◌≡◌, ◌+◌, ◌≤◌, ℕ, suc, List, [], ◌∷◌, Bool, true, false, cond, length, map, get_or, drop, refl, ap, sym, ◌∙◌, subst, arith}
use Rattle.std.specs.List.{AllZip, AllByRecursion}
use Rattle.std.proofs.lemmas.List.{length-map}
use Rattle.schema_model.specs.Catalogue.{CatalogueValue}
use Rattle.view_def.specs.Query.{Query}
use Rattle.view_def.specs.Profile.{IsViewOfProfile}
use Rattle.schema_delta.specs.declared.spec.FlatSpec.{FlatSpec}
use Rattle.operator_law.specs.declared.delta.Signed.{Signed}
use Rattle.join_delta.specs.Joins.{JoinValue}
use Rattle.schema_delta.specs.Net.{SameNet, IsNet}
use Rattle.plan_law.specs.Columns.{header}
use Rattle.plan_law.specs.Chain.{Joint, Sides, SideMoves, Walks, AreNet, walk_pairs}
use Rattle.plan_law.specs.PlanRows.{specs_from, plan_joints}
use Rattle.plan_law.specs.Laws.{IsWalk}
use Rattle.plan_law.specs.PlanMoves.{FlatMoved, PlanKeeps, first_moves, further_moves, fact_moves}
use Rattle.plan_form.specs.Bases.{BaseValue, bases_from}
use Rattle.plan_form.specs.Forms.{IsOutputOf}
use Rattle.plan_translate.specs.ChainStages.{joint_in, sides_in}
use Rattle.plan_translate.specs.declared.plan.Plan.TheInside.{Inside}
use Rattle.plan_translate.specs.Read.{reads_rows, is_read, left_side, kept_moves}
use Rattle.plan_translate.specs.Parts.{bases_of, joint_with, joints_with, own_tests, each_passing}
use Rattle.plan_translate.specs.Plans.{PlanValue, PlanMoveValue, query_in, JoinsStand}
use Rattle.plan_translate.specs.PlanFields.{query_inside, seen, IsPlan}
use Rattle.plan_translate.specs.Walked.{WalksOver, CostsOver, Walked}
use Rattle.plan_translate.specs.Costs.{CountsWalk}
use Rattle.plan_translate.proofs.Bases.{FirstBase, first_base, plan_joints_with, specs_of}
use Rattle.schema_delta.proofs.GroupLemmas.{flat_nets}
use Rattle.plan_translate.proofs.OwnMoves.{own_split}

read_two : (ss : List FlatSpec) → reads_rows ss ≡ true → length ss ≡ 2
read_two [] read = absurd (cc read)
read_two (a ∷ []) read = absurd (cc read)
read_two (a ∷ b ∷ []) read = refl
read_two (a ∷ b ∷ d ∷ ss) read = absurd (cc read)

module _ (i : Inside) (is : IsPlan i) where
  abbrev q : Query
  q = query_inside i

  b : FirstBase q
  b = first_base q is.profile

  bases_long : length (bases_of q) ≡ suc (length (bases_from q (header q 0 b.first) 1 b.rest))
  bases_long = ap length b.bases

  -- one specification and one list of tests for each declaration, and one join for each but the first
  pub tests_long : length i.tests.items ≡ length (specs_from q 0 q.decls)
  tests_long =
      sym (length-map i.tests.items _)
      ∙ ap length is.tests
      ∙ length-map (bases_of q) _
      ∙ sym (length-map (bases_of q) (λ (b : BaseValue). b.spec))
      ∙ ap length (specs_of q q.decls [] 0)

  pub joins_long : length i.tests.items ≡ length i.joins.items + 1
  joins_long =
      let joints = ap joints_with b.bases in
      let with : length (joints_with (bases_of q)) ≡ length (bases_from q (header q 0 b.first) 1 b.rest) = ap length joints ∙ length-map (bases_from q (header q 0 b.first) 1 b.rest) joint_with in
      let bases : length i.tests.items ≡ length (bases_of q) = sym (length-map i.tests.items _) ∙ ap length is.tests ∙ length-map (bases_of q) _ in
      let joins : length i.joins.items ≡ length (joints_with (bases_of q)) = sym (length-map i.joins.items joint_in) ∙ ap length is.joints ∙ sym (ap length (plan_joints_with q is.profile)) in
      omega (arith, bases_long, with, bases, joins)

  -- a plan that reads rows has one join
  pub one_join : is_read q ≡ true → length i.joins.items ≡ 1
  one_join read = omega (arith, read_two (specs_from q 0 q.decls) read, tests_long, joins_long)

-- what the value says by the fields
module _ (i : Inside) (is : IsPlan i) (p : PlanValue) (view : seen i ≡ p) where
  pub profile_in : IsViewOfProfile (query_in p)
  profile_in = subst (λ (p : PlanValue). IsViewOfProfile (query_in p)) view is.profile

  pub output_in : IsOutputOf (query_in p) i.output
  output_in = subst (λ (p : PlanValue). IsOutputOf (query_in p) i.output) view is.output

  pub specs_in : i.specs.items ≡ specs_from (query_in p) 0 (query_in p).decls
  specs_in = is.specs ∙ ap (λ (p : PlanValue). specs_from (query_in p) 0 (query_in p).decls) view

  pub tests_in : length i.tests.items ≡ length (specs_from (query_in p) 0 (query_in p).decls)
  tests_in = tests_long i is ∙ ap (λ (p : PlanValue). length (specs_from (query_in p) 0 (query_in p).decls)) view

  pub reads_in : i.reads ≡ is_read (query_in p)
  reads_in = is.reads ∙ ap (λ (p : PlanValue). is_read (query_in p)) view

  pub joints_in : map joint_in i.joins.items ≡ plan_joints (query_in p) (query_in p).decls
  joints_in = is.joints ∙ ap (λ (p : PlanValue). plan_joints (query_in p) (query_in p).decls) view

  pub joined_in : length (plan_joints (query_in p) (query_in p).decls) ≡ length i.joins.items
  joined_in = sym (ap length joints_in) ∙ length-map i.joins.items joint_in

  pub one_in : is_read (query_in p) ≡ true → length (plan_joints (query_in p) (query_in p).decls) ≡ 1
  one_in read = joined_in ∙ one_join i is (ap (λ (p : PlanValue). is_read (query_in p)) view ∙ read)

  -- the own moves of the declarations
  pub split_in : (nets : List (List Signed)) → length nets ≡ length i.tests.items → (first : List Signed) (further : List (List Signed)) → first ∷ further ≡ each_passing (own_tests i.tests.items) nets
      → (first ≡ first_moves (query_in p) (query_in p).decls nets) × (further ≡ further_moves (query_in p) (query_in p).decls nets)
  split_in nets long first further are =
      let q = query_inside i in
      let all = are ∙ own_split q (first_base q is.profile) (own_tests i.tests.items) is.tests nets (omega (arith, long, joins_long i is)) in
      subst (λ (p : PlanValue). (first ≡ first_moves (query_in p) (query_in p).decls nets) × (further ≡ further_moves (query_in p) (query_in p).decls nets)) view
      (ap (λ (l : List (List Signed)). get_or l 0 first) all, ap (λ (l : List (List Signed)). drop 1 l) all)

-- ---- a walk over sides of which the left ones alone are kept
walks_left : (js : List Joint) (ks : List Sides) (nss : List (List Signed)) (ps : List SideMoves) (out : List Signed) (old new : ℕ) → length js ≡ 1
    → Walks js (map left_side ks) [] nss ps out → new ≤ old + walk_pairs js (map left_side ks) ps → Walks js ks [] nss ps out × (new ≤ old + walk_pairs js ks ps)
walks_left [] ks nss ps out old new one walks le = absurd (omega (arith, one))
walks_left (j ∷ i ∷ js) ks nss ps out old new one walks le = absurd (omega (arith, one))
walks_left (j ∷ []) [] nss ps out old new one walks le = absurd walks
walks_left (j ∷ []) (k ∷ ks) [] ps out old new one walks le = absurd walks
walks_left (j ∷ []) (k ∷ ks) (ns ∷ nss) [] out old new one walks le = absurd walks
walks_left (j ∷ []) (k ∷ ks) (ns ∷ nss) (p ∷ ps) out old new one walks le =
    let same : walk_pairs (j ∷ []) (left_side k ∷ map left_side ks) (p ∷ ps) ≡ walk_pairs (j ∷ []) (k ∷ ks) (p ∷ ps) =
    subst (λ (p : SideMoves). walk_pairs (j ∷ []) (left_side k ∷ map left_side ks) (p ∷ ps) ≡ walk_pairs (j ∷ []) (k ∷ ks) (p ∷ ps)) (sym walks.0) refl in
    (walks, subst (λ (n : ℕ). new ≤ old + n) same le)

-- where they do not move it is one over both sides
pub walks_kept : (b : Bool) (js : List Joint) (ks : List Sides) (first : List Signed) (nss : List (List Signed)) (ps : List SideMoves) (out : List Signed) (old new : ℕ)
    → (b ≡ true → length js ≡ 1) → (b ≡ true → first ≡ []) → Walks js (cond b (map left_side ks) ks) first nss ps out → new ≤ old + walk_pairs js (cond b (map left_side ks) ks) ps
    → Walks js ks first nss ps out × (new ≤ old + walk_pairs js ks ps)
walks_kept false js ks first nss ps out old new one none walks le = (walks, le)
walks_kept true js ks first nss ps out old new one none walks le =
    let is : first ≡ [] = none refl in
    subst (λ (ms : List Signed). Walks js ks ms nss ps out × (new ≤ old + walk_pairs js ks ps)) (sym is)
    (walks_left js ks nss ps out old new (one refl) (subst (λ (ms : List Signed). Walks js (map left_side ks) ms nss ps out) is walks) le)

-- a walk through joins that stand
pub kept_over : (c : CatalogueValue) (q : Query) (joins : List JoinValue) (first : List Signed) (further : List (List Signed)) (moves : List SideMoves) (out : List Signed) (old new : ℕ)
    → map joint_in joins ≡ plan_joints q q.decls → (is_read q ≡ true → length (plan_joints q q.decls) ≡ 1) → (is_read q ≡ true → first ≡ []) → Walks (map joint_in joins) (map sides_in joins) first further moves out
    → new ≤ old + walk_pairs (map joint_in joins) (map sides_in joins) moves → JoinsStand c q (map sides_in joins) → WalksOver c q first further moves out old new
kept_over c q joins first further moves out old new are one none walks le stand =
    let here = subst (λ (js : List Joint). Walks js (map sides_in joins) first further moves out) are walks in
    let within = subst (λ (js : List Joint). new ≤ old + walk_pairs js (map sides_in joins) moves) are le in
    let both = walks_kept (is_read q) (plan_joints q q.decls) stand.sides first further moves out old new one none
    (subst (λ (ks : List Sides). Walks (plan_joints q q.decls) ks first further moves out) stand.kept_are here)
    (subst (λ (ks : List Sides). new ≤ old + walk_pairs (plan_joints q q.decls) ks moves) stand.kept_are within) in
    record { sides = stand.sides; keeps = stand.keeps; walks = both.0; within = both.1 }

-- ---- how a walk moves a plan
module _ (c c' : CatalogueValue) (q : Query) (deltas nets : List (List Signed)) (first : List Signed) (further : List (List Signed)) (same : AllZip SameNet deltas nets) (first_is : first ≡ first_moves q q.decls nets)
    (further_is : further ≡ further_moves q q.decls nets) (moved : FlatMoved c c' q deltas) where
  is_walk : (sides : List Sides) (moves : List SideMoves) (out : List Signed) → PlanKeeps c q sides → Walks (plan_joints q q.decls) sides first further moves out → IsWalk c c' q sides moves out
  is_walk sides moves out keeps walks = record {
    deltas = nets;
    moved = flat_nets c c' (specs_from q 0 q.decls) deltas nets moved same;
    stands = keeps;
    walks =
        subst (λ (ms : List Signed). Walks (plan_joints q q.decls) sides ms (further_moves q q.decls nets) moves out) first_is
        (subst (λ (nss : List (List Signed)). Walks (plan_joints q q.decls) sides first nss moves out) further_is walks);
  }

  pub walked_by : (moves : List SideMoves) (out : List Signed) (old new : ℕ) → WalksOver c q first further moves out old new
      → length moves ≡ length (plan_joints q q.decls) → AreNet moves → IsNet out → (m : PlanMoveValue) → m.sides ≡ kept_moves q moves → SameNet (fact_moves q out) m.facts → IsNet m.facts → Walked c c' q m old new
  walked_by moves out old new over each nets_are out_net m kept facts facts_net = record {
    sides = over.sides;
    moves = moves;
    out = out;
    walk = is_walk over.sides moves out over.keeps over.walks;
    each = each;
    nets = nets_are;
    out_net = out_net;
    within = over.within;
    kept = kept;
    facts = facts;
    facts_net = facts_net;
  }

  pub counts_walk : (old new : ℕ) → IsNet first → AllByRecursion IsNet further → CostsOver c q first further old new → CountsWalk c c' q old new
  counts_walk old new net each over =
      let nets_are = over.walk.nets net each in
      record {
        sides = over.sides;
        moves = over.walk.moves;
        out = over.walk.out;
        walk = is_walk over.sides over.walk.moves over.walk.out over.keeps over.walk.walks;
        nets = nets_are.0;
        out_net = nets_are.1;
        within = over.walk.within;
      }
