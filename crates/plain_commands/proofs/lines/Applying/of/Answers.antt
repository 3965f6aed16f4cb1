use Rattle.plain_commands.proofs.LabelLemmas.{none_ascend}
use Rattle.plain_commands.proofs.lines.Applying.of.Goals as goal

pub invariant_of-result : goal.invariant_of-result
invariant_of-result c = record {
  some = c.requires.some;
  keys = c.requires.keys;
  before = c.in_ok-before.ensures.ascend;
  named = rw c.new.ensures.items none_ascend;
}
