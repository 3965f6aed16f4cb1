-- What a move costs.
use Rattle.std.proofs.Common.{◌≤◌, ◌+◌, ◌*◌, ℕ, Bool, length, arith, sym}
use Rattle.schema_model.specs.Catalogue.{CatalogueValue}
use Rattle.schema_model.specs.Changes.{after}
use Rattle.schema_model.specs.declared.change.Change.{Change}
use Rattle.view_def.specs.Query.{Query}
use Rattle.view_def.specs.Profile.{IsViewOfProfile}
use Rattle.plan_law.specs.Marks.{OfRow, touched_by, flat_moved_by}
use Rattle.plan_law.specs.PlanMoves.{fact_moves}
use Rattle.plan_law.proofs.Net.{fewest}
use Rattle.plan_law.proofs.PlanLaws.{is_bounded}
use Rattle.plan_translate.specs.Plans.{PlanMoveValue}
use Rattle.plan_translate.specs.Walked.{Walked}
use Rattle.plan_translate.specs.Costs.{CountsWalk, CountsPairs, IsRowBounded}
use Rattle.plan_translate.proofs.FactMoves.{few_facts}

pub counts_pairs : (c c' : CatalogueValue) (q : Query) (m : PlanMoveValue) (old new : ℕ) → Walked c c' q m old new → CountsPairs c c' q m old new
counts_pairs c c' q m old new w = record {
  counts = record { sides = w.sides; moves = w.moves; out = w.out; walk = w.walk; nets = w.nets; out_net = w.out_net; within = w.within };
  moves_are = w.kept;
}

-- the walk of a change of one row
pub row_counted : (c : CatalogueValue) (g : Change) (q : Query) (old new : ℕ) (up : Bool) → IsViewOfProfile q → OfRow g up → CountsWalk c (after c g) q old new → new ≤ old + 4 * touched_by c q g + 4 * flat_moved_by c q g
row_counted c g q old new up profile one w = omega (arith, (is_bounded c q g up w.sides w.moves w.out profile one w.walk w.nets w.out_net).all, w.within)

-- a change of one row
pub row_bounded : (c : CatalogueValue) (g : Change) (q : Query) (m : PlanMoveValue) (old new : ℕ) → IsViewOfProfile q → Walked c (after c g) q m old new → IsRowBounded c q g m old new
row_bounded c g q m old new profile w up one =
    let rows = fact_moves q w.out in
    let all = is_bounded c q g up w.sides w.moves w.out profile one w.walk w.nets w.out_net in
    let few : length m.facts ≤ length rows = fewest m.facts rows w.facts_net (λ f. sym (w.facts f)) in
    omega (arith, all.all, few, few_facts q w.out, w.within)
