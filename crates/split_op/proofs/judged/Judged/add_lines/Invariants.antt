use Rattle.std.proofs.Common.{◌≡◌, ◌++◌}
use Rattle.split_op.proofs.judged.Judged.add_lines.Given as goal

abbrev pub invariant-loop-line : goal.invariant-loop-line
invariant-loop-line l = record {
  lines : l.self.lines.items ≡ l.fn.self.lines.items ++ l.yielded;
  clash : l.self.clash ≡ l.fn.self.clash;
}
