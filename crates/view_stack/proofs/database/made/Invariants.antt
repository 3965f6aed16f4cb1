use Rattle.std.proofs.Common.{◌≡◌, length, take}
use Rattle.kept_tables.specs.Slots.{tables_in}
use Rattle.schema_model.specs.States.{settled}
use Rattle.view_stack.specs.Stands.{catalogue_for}
use Rattle.view_stack.proofs.database.made.Given as goal

abbrev pub invariant-loop-slot : goal.invariant-loop-slot
invariant-loop-slot l = record {
  put : l.catalogue ≡ settled (catalogue_for l.view_db l.shape (tables_in (take l.slot-index l.slots)));
  rel : l.rel ≡ length (tables_in (take l.slot-index l.slots));
}
