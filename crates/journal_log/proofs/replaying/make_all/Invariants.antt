use Rattle.std.proofs.Common.{◌≡◌, drop}
use Rattle.schema_model.specs.Changes.{after_all}
use Rattle.schema_model.specs.Refusals.{group_fault}
use Rattle.journal_log.proofs.replaying.make_all.Given as goal

abbrev pub invariant-loop-change : goal.invariant-loop-change
invariant-loop-change l = record {
  fits : group_fault l.initial.catalogue.databases l.changes ≡ group_fault l.catalogue.databases (drop l.change-index l.changes);
  made : after_all l.initial.catalogue.databases l.changes ≡ after_all l.catalogue.databases (drop l.change-index l.changes);
}
