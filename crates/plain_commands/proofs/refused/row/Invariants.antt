use Rattle.std.proofs.Common.{◌≡◌, ◌∷◌, map, take, Bor}
use Rattle.ss_text.specs.Texts.{Text}
use Rattle.plain_commands.proofs.refused.row.Given as goal

abbrev pub invariant-loop-text : goal.invariant-loop-text
invariant-loop-text l = l.fields.items ≡ l.fn.name ∷ map (λ (t : Bor Text). t.now) (take l.text-index l.texts)
