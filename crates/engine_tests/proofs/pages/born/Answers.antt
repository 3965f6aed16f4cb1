use Rattle.std.proofs.Common.{sym, subst}
use Rattle.ss_text.specs.Texts.{Row}
use Rattle.schema_model.specs.Placed.{Placed, placed_rows}
use Rattle.fold_op.specs.declared.change.SheetChange.{SheetChange}
use Rattle.fold_op.specs.Sheets.{FitsSheet}
use Rattle.engine_tests.proofs.PageLemmas.{can_be_born}
use Rattle.engine_tests.proofs.pages.born.Goals as goal

pub born_moves-delta-requires-clause-fits : goal.born_moves-delta-requires-clause-fits
born_moves-delta-requires-clause-fits c =
    subst (λ (p : SheetChange × (Row × Placed)). FitsSheet p.0 (p.1.0, placed_rows p.1.1)) (λ i. (sym c.in_ok-birth.ensures i, sym c.no_sheet-absent.ensures i)) can_be_born
