use Rattle.std.proofs.Common.{◌≡◌, length}
use Rattle.schema_model.specs.Changes.{after}
use Rattle.schema_delta.proofs.GroupLemmas.{Behind}
use Rattle.schema_delta.proofs.group.moved_on.Given as goal

abbrev pub invariant-loop-delta : goal.invariant-loop-delta
invariant-loop-delta g l = record {
  moved : Behind l.present.databases (after l.present.databases l.change) l.specs l.yielded l.all.items (length l.yielded);
  as_long : length l.all.items ≡ length l.yielded;
  counted : l.steps ≡ l.fn.steps;
}
