use Rattle.std.proofs.Common.{◌≡◌, [], arith, ap, length, ◌∙◌}
use Rattle.std.proofs.lemmas.Grind.{common_steps}
use Rattle.std.proofs.lemmas.List.{take_all}
use Rattle.whole_sync.proofs.SameListLemmas.{joined_rest}
use Rattle.whole_sync.proofs.words.words_of.Goals as goal

pub returns-then-not-is_empty-clause-failed : goal.returns-then-not-is_empty-clause-failed
returns-then-not-is_empty-clause-failed c = λ is ws all text.
    let so_far = c.loop-byte.invariant in
    let none : c.loop-byte.word.items ≡ [] = joined_rest c.loop-byte.words.items c.loop-byte.word.items ws so_far.words so_far.word all (so_far.read ∙ (take_all c.loop-byte.byte-index c.args.text.now (omega arith) ∙ text)) in
    let short = ap length none in
    grind (arith, common_steps)
