use Rattle.std.proofs.Common.{drop}
use Rattle.whole_sync.proofs.ListLemmas.{IsWritten}
use Rattle.whole_sync.proofs.words.list_text.Given as goal

abbrev pub invariant-loop-one : goal.invariant-loop-one
invariant-loop-one l = IsWritten l.moves (drop l.one-index l.moves) l.text.items
