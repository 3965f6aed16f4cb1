use Rattle.std.proofs.Common.{◌≡◌, ◌++◌, take}
use Rattle.std.specs.List.{AllByRecursion}
use Rattle.whole_sync.specs.Lists.{joined, IsWord}
use Rattle.whole_sync.proofs.words.words_of.Given as goal

abbrev pub invariant-loop-byte : goal.invariant-loop-byte
invariant-loop-byte l = record {
  read : joined l.words.items ++ l.word.items ≡ take l.byte-index l.text;
  words : AllByRecursion IsWord l.words.items;
  word : IsWord l.word.items;
}
