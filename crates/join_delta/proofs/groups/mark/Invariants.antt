use Rattle.std.proofs.Common.{◌≡◌, take, fold}
use Rattle.ss_text.specs.Seeds.{start_of}
use Rattle.row_links.specs.Parts.{cells_at}
use Rattle.row_links.specs.Marks.{write_cell}
use Rattle.join_delta.proofs.groups.mark.Given as goal

abbrev pub invariant-loop-position : goal.invariant-loop-position
invariant-loop-position l = l.state ≡ fold write_cell (start_of l.fn.seed) (cells_at (take l.position-index l.key) l.row)
