use Rattle.std.proofs.Common.{◌∙◌, ap, subst, map, List}
use Rattle.ss_text.specs.Texts.{Text, Row, text_eq, row_eq, text_cmp, row_cmp}
use Rattle.ss_text.specs.Ascending.{ascending}
use Rattle.counts.specs.declared.moves.Move.{Move}
use Rattle.counts.specs.Counted.{IsNet}
use Rattle.unfold_op.specs.Touched.{Entry, entry_eq, entry_cmp}
use Rattle.unfold_op.proofs.RowMoves.{keys_of_rows, columns_of_rows, entries_of_rows}
use Rattle.unfold_op.proofs.delta.nets_of.Goals as goal

pub returns : goal.returns
returns c =
    let shape = c.args.shape.now in
    let ms = c.args.moves.now in
    let keys = c.in_ok-key_moves.ensures ∙ keys_of_rows shape ms in
    let columns = c.in_ok-column_moves.ensures ∙ columns_of_rows shape ms in
    let entries = c.in_ok-entry_moves.ensures ∙ entries_of_rows shape ms in
    record {
      keys = subst (λ (ls : List (Move Row)). IsNet row_eq ls c.in_ok-keys.keys) keys c.in_ok-keys.ensures.net;
      columns = subst (λ (ls : List (Move Text)). IsNet text_eq ls c.in_ok-columns.columns) columns c.in_ok-columns.ensures.net;
      entries = subst (λ (ls : List (Move Entry)). IsNet entry_eq ls c.in_ok-entries.entries) entries c.in_ok-entries.ensures.net;
      keys_named = c.in_ok-keys.ensures.keys ∙ ap (λ (ls : List (Move Row)). ascending row_cmp (map (λ (m : Move Row). m.key) ls)) keys;
      columns_named = c.in_ok-columns.ensures.keys ∙ ap (λ (ls : List (Move Text)). ascending text_cmp (map (λ (m : Move Text). m.key) ls)) columns;
      entries_named = c.in_ok-entries.ensures.keys ∙ ap (λ (ls : List (Move Entry)). ascending entry_cmp (map (λ (m : Move Entry). m.key) ls)) entries;
    }
