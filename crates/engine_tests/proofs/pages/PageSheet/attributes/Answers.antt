use Rattle.std.proofs.Common.{subst}
use Rattle.ss_text.specs.Texts.{Row}
use Rattle.schema_model.specs.Placed.{Placed, placed_rows, ArePlaces}
use Rattle.fold_op.specs.Sheets.{IsSheet}
use Rattle.engine_tests.proofs.PageLemmas.{is_sheet, two_places}
use Rattle.engine_tests.proofs.pages.PageSheet.attributes.Goals as goal

pub returns-clause-sheet : goal.returns-clause-sheet
returns-clause-sheet c =
    let page = c.self.inside in
    subst (λ (v : Row × Placed). IsSheet (v.0, placed_rows v.1)) c.self.view_is
    (is_sheet page.attributes page.first page.second c.self.invariant.0 c.self.invariant.1 c.self.invariant.2)

pub returns-clause-places : goal.returns-clause-places
returns-clause-places c = subst (λ (v : Row × Placed). ArePlaces v.1) c.self.view_is (two_places c.self.inside.first c.self.inside.second)
