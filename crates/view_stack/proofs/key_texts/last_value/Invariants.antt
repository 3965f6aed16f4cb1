use Rattle.std.proofs.Common.{◌≡◌, map, take}
use Rattle.std.specs.Prelude.{unwrap_or}
use Rattle.std.specs.Option.{option_copied}
use Rattle.ss_text.specs.Texts.{Text}
use Rattle.view_stack.specs.Records.{text_after}
use Rattle.view_stack.proofs.key_texts.last_value.Given as goal

abbrev pub invariant-loop-column : goal.invariant-loop-column
invariant-loop-column l = (text : Text) → unwrap_or (option_copied l.last) text ≡ text_after l.name (map (λ c. (c.0.now, c.1.now)) (take l.column-index l.cells)) text
