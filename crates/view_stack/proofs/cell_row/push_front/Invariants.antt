use Rattle.std.proofs.Common.{◌≡◌, ◌++◌, map, drop}
use Rattle.view_stack.specs.Records.{front_cells}
use Rattle.view_stack.proofs.cell_row.push_front.Given as goal

abbrev pub invariant-loop-line : goal.invariant-loop-line
invariant-loop-line l =
    map (λ c. (c.0.now, c.1.now)) l.cells.items ++ front_cells l.label l.key (drop l.line-index l.lines) ≡ map (λ c. (c.0.now, c.1.now)) l.fn.cells.items ++ front_cells l.label l.key l.lines
