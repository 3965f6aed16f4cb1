use Rattle.std.proofs.Common.{◌≡◌, ◌<◌, ◌++◌, ◌∷◌, ◌∙◌, [], sym, ap, length, arith}
use Rattle.flow_law.specs.Tables.{row_at}
use Rattle.flow_law.specs.Script.{cell_line}
use Rattle.change_script.proofs.BetweenLemmas.{one_given, none_given}
use Rattle.change_script.proofs.between.push_cells_of.Goals as goal
use Rattle.change_script.proofs.between.push_cells_of.Goals.{in-Some+in_ok-push, in_default}

pub loop-column-preserved : goal.loop-column-preserved
loop-column-preserved c =
    let lt : c.loop-column.column < length c.args.new.now.columns = omega (arith, ap length c.columns-column-end.ensures.columns) in
    let h = cell_line c.args.label.now c.args.old.now c.args.new.now (row_at c.args.row c.args.new.now).0 in
    elim c.match-branch-2.branch [
      | in-Some+in_ok-push w ↦
          let written : c.match-branch-2.lines.items ≡ c.loop-column.lines.items ++ w.in-Some.line ∷ [] = cc (w.lines-is, w.in_ok-push.ensures.items) in
          written ∙ one_given h c.args.lines.now.items c.loop-column.lines.items c.args.new.now.columns c.loop-column.column [] lt c.loop-column.invariant w.in-Some.line (sym w.in-Some.is ∙ c.in_ok-line.ensures)
      | in_default w ↦
          let same : c.match-branch-2.lines.items ≡ c.loop-column.lines.items = cc (w.lines-is) in
          same ∙ none_given h c.args.lines.now.items c.loop-column.lines.items c.args.new.now.columns c.loop-column.column [] lt c.loop-column.invariant (sym w.in_default.is ∙ c.in_ok-line.ensures)
    ]
