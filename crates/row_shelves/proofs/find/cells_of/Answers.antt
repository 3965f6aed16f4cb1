use Rattle.std.proofs.Common.{sym, ◌∙◌, ap, Some}
use Rattle.ss_text.proofs.KeyLemmas.{row_order, lookup_lacks, lacks_for, place_for_seen}
use Rattle.flow_law.specs.Tables.{key_of}
use Rattle.row_shelves.specs.Stocks.{row_of, rows_of}
use Rattle.row_shelves.specs.Shelves.{all_rows, place_of}
use Rattle.row_shelves.proofs.FoundLemmas.{cells_found}
use Rattle.row_shelves.proofs.find.cells_of.Goals as goal

pub returns-in_default : goal.returns-in_default
returns-in_default c =
    let rows = all_rows c.args.shelves.now in
    let place = place_of c.args.shelves.now c.in_default.field-0 in
    let key = c.args.key.now in
    sym (lookup_lacks row_order key (rows_of rows) (lacks_for row_order key_of key (rows_of rows) place (place_for_seen row_order key_of row_of key rows place c.in_default.ensures.absent)))

pub returns : goal.returns
returns c =
    ap Some c.cells.ensures
    ∙ cells_found c.args.key.now (all_rows c.args.shelves.now) (place_of c.args.shelves.now c.in-Ok.spot) c.row_at.result.now c.requires.keys c.in-Ok.ensures.found c.row_at.ensures
