use Rattle.std.proofs.Common.{◌≡◌, ◌<◌, ◌++◌, ◌∷◌, ◌∙◌, [], sym, ap, length, arith}
use Rattle.ss_text.specs.Texts.{Row}
use Rattle.flow_law.specs.Tables.{row_at}
use Rattle.flow_law.specs.Lines.{has_row}
use Rattle.flow_law.specs.declared.line.TableLine.TheVariants.{RowPlus}
use Rattle.change_script.proofs.BetweenLemmas.{key_beyond, key_among}
use Rattle.change_script.proofs.between.push_rows_new.Goals as goal
use Rattle.change_script.proofs.between.push_rows_new.Goals.{then-not-has_row+in_ok-copy+in_ok-copy-2+in_ok-push, else-not-has_row}

pub loop-row-preserved : goal.loop-row-preserved
loop-row-preserved c =
    let f = λ (key : Row). RowPlus c.args.label.now key in
    let lt : c.loop-row.row < length c.args.new.now.rows = omega arith in
    let key = c.key-key.ensures in
    let named = ap (λ (k : Row). has_row k c.args.old.now) (sym key) in
    elim c.if-not-has_row.branch [
      | then-not-has_row+in_ok-copy+in_ok-copy-2+in_ok-push w ↦
          let line : c.if-not-has_row.lines.items ≡ c.loop-row.lines.items ++ f (row_at c.loop-row.row c.args.new.now).0 ∷ [] = cc (w.lines-is, w.in_ok-push.ensures.items, w.in_ok-copy.ensures, w.in_ok-copy-2.ensures, key) in
          line ∙ key_beyond f c.args.old.now c.args.new.now c.args.lines.now.items c.loop-row.lines.items c.loop-row.row lt c.loop-row.invariant (named ∙ sym w.if-not-has_row.ensures)
      | else-not-has_row w ↦
          let same : c.if-not-has_row.lines.items ≡ c.loop-row.lines.items = cc (w.lines-is) in
          same ∙ key_among f c.args.old.now c.args.new.now c.args.lines.now.items c.loop-row.lines.items c.loop-row.row lt c.loop-row.invariant (named ∙ sym w.if-not-has_row.ensures)
    ]
