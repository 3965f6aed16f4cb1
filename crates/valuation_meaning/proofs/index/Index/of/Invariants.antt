use Rattle.std.proofs.Common.{◌≤◌, length}
use Rattle.schema_model.specs.States.{plain_relation}
use Rattle.valuation_meaning.specs.Indexed.{cells_of, IsIndexed}
use Rattle.valuation_meaning.proofs.index.Index.of.Given as goal

abbrev pub invariant-loop-position : goal.invariant-loop-position
invariant-loop-position l = record {
  within : l.position ≤ length l.rows.items;
  indexed : IsIndexed (cells_of (plain_relation l.relation, l.attribute)) l.heads.entries l.next.items l.position;
}

abbrev pub decreases-loop-position : goal.decreases-loop-position
decreases-loop-position l = l.position
