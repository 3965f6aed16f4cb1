use Rattle.std.proofs.Common.{[], sym, ◌∙◌, ap, subst}
use Rattle.ss_text.specs.Texts.{Row}
use Rattle.schema_model.specs.Placed.{Placed, placed_rows, ArePlaces}
use Rattle.fold_op.specs.Sheets.{IsSheet}
use Rattle.engine_tests.proofs.PageLemmas.{absent_is_sheet, no_places}
use Rattle.engine_tests.proofs.pages.AbsentSheet.attributes.Goals as goal

pub returns-clause-sheet : goal.returns-clause-sheet
returns-clause-sheet c =
    subst (λ (v : Row × Placed). IsSheet (v.0, placed_rows v.1)) (ap (λ (a : Row). let v : Row × Placed = (a, []) in v) (sym c.self.invariant) ∙ c.self.view_is) absent_is_sheet

pub returns-clause-places : goal.returns-clause-places
returns-clause-places c = subst (λ (v : Row × Placed). ArePlaces v.1) c.self.view_is no_places
