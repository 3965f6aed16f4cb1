use Rattle.std.proofs.Common.{◌≡◌, List, [], ◌∷◌, ◌++◌, codes, length}
use Rattle.whole_sync.specs.declared.moves.Move.{Move}
use Rattle.whole_sync.specs.Lists.{moves_words}
use Rattle.whole_sync.proofs.words.read_list.Given as goal

abbrev pub invariant-loop-rest : goal.invariant-loop-rest
invariant-loop-rest l = record {
  so_far : l.initial.rest ≡ moves_words l.moves.items ++ l.rest;
  left : (ms : List Move) → l.initial.rest ≡ moves_words ms ++ codes "end" ∷ [] → (ns : List Move) × (l.rest ≡ moves_words ns ++ codes "end" ∷ []);
}

abbrev pub decreases-loop-rest : goal.decreases-loop-rest
decreases-loop-rest l = length l.rest
