use Rattle.std.proofs.Common.{◌≡◌, ◌++◌, drop}
use Rattle.view_stack.specs.Lifted.{lifted, lifted_behind}
use Rattle.view_stack.proofs.lifting.lifted.Given as goal

abbrev pub invariant-loop-place : goal.invariant-loop-place
invariant-loop-place l =
    l.changes.items ++ lifted_behind l.below.db.now l.below.constants.now l.below.tables.now.tables l.catalogue.databases l.left l.row (drop l.place l.lines)
    ≡ lifted l.below.db.now l.below.constants.now l.below.tables.now.tables l.catalogue.databases l.lines
