use Rattle.std.proofs.Common.{◌≡◌, None, length}
use Rattle.std.specs.Prelude.{IsTrue}
use Rattle.std.specs.List.{AllByRecursion}
use Rattle.schema_model.specs.Changes.{after_all, is_well_formed}
use Rattle.schema_model.specs.Refusals.{group_fault}
use Rattle.schema_model.proofs.catalogue.make_each.Given as goal

abbrev pub invariant-loop-change : goal.invariant-loop-change
invariant-loop-change l = record {
  formed : AllByRecursion (λ g. IsTrue (is_well_formed g)) l.left;
  accepted : group_fault l.catalogue.databases l.left ≡ None;
  same : after_all l.catalogue.databases l.left ≡ after_all l.fn.catalogue.databases l.fn.changes;
}

abbrev pub decreases-loop-change : goal.decreases-loop-change
decreases-loop-change l = length l.left
