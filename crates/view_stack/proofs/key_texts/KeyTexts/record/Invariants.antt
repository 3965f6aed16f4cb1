use Rattle.std.proofs.Common.{◌≡◌, map, take}
use Rattle.view_stack.specs.Records.{text_in, text_after}
use Rattle.view_stack.proofs.key_texts.KeyTexts.record.Given as goal

abbrev pub invariant-loop-name : goal.invariant-loop-name
invariant-loop-name l =
    l.texts.items ≡ map (λ name. text_after name (map (λ c. (c.0.now, c.1.now)) l.cells) (text_in l.self.constants.now l.self.columns.now l.self.key.now l.self.cells.now name)) (take l.name-index l.names)
