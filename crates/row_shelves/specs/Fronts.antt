-- The front of a key.
use Rattle.std.specs.Prelude.{◌≡◌, ℕ}
use Rattle.ss_text.specs.Texts.{Row}
use Rattle.ss_text.specs.Front.{front_of, first_of, AreDigits}

-- the number is that of the key's first text, whose bytes are digits
pub record IsFrontOf (number : ℕ) (key : Row) : Type 0 where
  pub front : number ≡ front_of 7 (first_of key)
  pub digits : AreDigits 7 (first_of key)
