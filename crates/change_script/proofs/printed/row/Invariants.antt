use Rattle.std.proofs.Common.{◌≡◌, ◌∷◌, ◌++◌, map, take, Bor}
use Rattle.ss_text.specs.Texts.{Text}
use Rattle.change_script.specs.Printed.{verb_name}
use Rattle.change_script.proofs.printed.row.Given as goal

abbrev pub invariant-loop-text : goal.invariant-loop-text
invariant-loop-text l = l.cells.items ≡ verb_name l.fn.verb ∷ map (λ (t : Bor Text). t.now) (take l.text-index l.texts)

abbrev pub invariant-loop-text-2 : goal.invariant-loop-text-2
invariant-loop-text-2 l = l.cells.items ≡ verb_name l.fn.verb ∷ (map (λ (t : Bor Text). t.now) l.fn.texts ++ take l.text-index l.key)
