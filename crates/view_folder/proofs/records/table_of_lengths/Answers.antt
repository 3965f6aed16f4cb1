use Rattle.std.proofs.Common.{◌≡◌, ◌∙◌, length, ap, sym}
use Rattle.ss_text.specs.Texts.{Row}
use Rattle.view_folder.proofs.RecordLemmas.{none_ragged}
use Rattle.view_folder.proofs.records.table_of_lengths.Goals as goal

pub table_of_view-requires : goal.table_of_view-requires
table_of_view-requires c =
    let want : length c.cells-want.result.now ≡ length c.args.header.now = ap (λ (r : Row). length r) c.cells-want.ensures in
    none_ragged (length c.args.header.now) 2 c.args.rows.now (rw want at (sym c.first_ragged.ensures ∙ c.in-None.is))
