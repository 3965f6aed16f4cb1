use Rattle.std.proofs.Common.{◌≡◌, ◌+◌}
use Rattle.ss_text.specs.Texts.{Row}
use Rattle.operator_law.specs.Bags.{weigh, is}
use Rattle.join_delta.specs.Walks.{rows_of}
use Rattle.schema_delta.specs.Cancelled.{Apart}
use Rattle.schema_delta.proofs.cancel.without.Given as goal

abbrev pub invariant-loop-row : goal.invariant-loop-row
invariant-loop-row l = record {
  all : (r : Row) → weigh (is r) l.kept.items + weigh (is r) l.fn.others.items ≡ weigh (is r) l.yielded + weigh (is r) (rows_of l.found.live);
  apart : Apart l.kept.items (rows_of l.found.live);
}
