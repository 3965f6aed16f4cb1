use Rattle.std.proofs.Common.{ℕ, ◌≡◌, ◌<◌, ◌∙◌, [], true, false, Some, sym, ap, length, slice_index_or}
use Rattle.std.proofs.lemmas.List.{get_or_read}
use Rattle.ss_text.specs.Texts.{Text, Row}
use Rattle.flow_law.specs.Tables.{TableValue, row_at, cell_in, cells_of, cell_of}
use Rattle.flow_law.specs.declared.line.TableLine.TheVariants.{Cell}
use Rattle.flow_law.proofs.CellLemmas.{own_cell}
use Rattle.change_script.proofs.BetweenLemmas.{cell_line_by}
use Rattle.change_script.proofs.between.cell_line.Goals as goal

-- the column that was read, and the values of its cell before and now
column_read : (xs columns : Row) (k : ℕ) (x : Text) → xs ≡ columns → k < length columns → x ≡ slice_index_or xs k x → x ≡ slice_index_or columns k []
column_read xs columns k x e lt read =
    let within : k < length xs = rw e lt in
    get_or_read xs k x within read [] ∙ ap (λ (ys : Row). slice_index_or ys k []) e

value_before : (t : TableValue) (key cells : Row) (column x value : Text) → value ≡ cell_in t.columns cells x → x ≡ column → cells ≡ cells_of t key → value ≡ cell_of t key column
value_before t key cells column x value v e f = v ∙ ap (cell_in t.columns cells) e ∙ ap (λ (c : Row). cell_in t.columns c column) f

pub returns-then-eq : goal.returns-then-eq
returns-then-eq c =
    let key = (row_at c.args.row c.args.new.now).0 in
    let column = slice_index_or c.args.new.now.columns c.args.column [] in
    let name = column_read c.columns.result.now c.args.new.now.columns c.args.column c.index-columns-column.result c.columns.ensures.columns c.requires.column_there c.index-columns-column.is in
    cell_line_by c.args.label.now c.args.old.now c.args.new.now key column c.cell_in.result.now c.as_slice.result.now true
    (value_before c.args.old.now key c.args.before.now column c.index-columns-column.result c.cell_in.result.now c.cell_in.ensures name c.requires.before)
    (c.as_slice.ensures ∙ c.cell-value.ensures ∙ sym (own_cell c.args.new.now c.args.row c.args.column c.columns.ensures.in_order c.requires.row_there c.requires.column_there)) c.if-eq.ensures

pub returns : goal.returns
returns c =
    let key = (row_at c.args.row c.args.new.now).0 in
    let column = slice_index_or c.args.new.now.columns c.args.column [] in
    let name = column_read c.columns.result.now c.args.new.now.columns c.args.column c.index-columns-column.result c.columns.ensures.columns c.requires.column_there c.index-columns-column.is in
    let line : Cell c.in_ok-copy.field-0 c.in_ok-copy-2.field-0 c.in_ok-copy-3.field-0 c.in_ok-copy-4.field-0 ≡ Cell c.args.label.now column c.as_slice.result.now key =
    cc (c.in_ok-copy.ensures, c.in_ok-copy-2.ensures, name, c.in_ok-copy-3.ensures, c.as_slice.ensures, c.in_ok-copy-4.ensures, c.key.ensures) in
    ap (λ l. Some l) line ∙ cell_line_by c.args.label.now c.args.old.now c.args.new.now key column c.cell_in.result.now c.as_slice.result.now false
    (value_before c.args.old.now key c.args.before.now column c.index-columns-column.result c.cell_in.result.now c.cell_in.ensures name c.requires.before)
    (c.as_slice.ensures ∙ c.cell-value.ensures ∙ sym (own_cell c.args.new.now c.args.row c.args.column c.columns.ensures.in_order c.requires.row_there c.requires.column_there)) c.if-eq.ensures
