use Rattle.std.specs.Prelude.{IsTrue}
use Rattle.std.specs.List.{AllByRecursion}
use Rattle.schema_model.specs.Changes.{is_well_formed}
use Rattle.engine_tests.proofs.building.changes_of.Given as goal

abbrev pub invariant-loop-line : goal.invariant-loop-line
invariant-loop-line l = AllByRecursion (λ g. IsTrue (is_well_formed g)) l.changes.items
