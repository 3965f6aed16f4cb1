-- What holds the bytes of a text. No public clause cites this module.
use Rattle.std.specs.Prelude.{ℕ, List}
use Rattle.ss_text.specs.declared.text.Held.{Held}
use Rattle.ss_text.specs.declared.text.Held.TheVariants.{Few, Many}

-- the bytes in place, or those of the vector
abbrev pub held_bytes : Held → List ℕ
held_bytes (Few bytes) = bytes
held_bytes (Many bytes) = bytes.value.items
