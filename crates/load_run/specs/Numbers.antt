-- Numbers that words spell in decimal.
use Rattle.std.specs.Prelude.{ℕ, ℤ, pos, negsuc, ◌&&◌, nat_le, Option, Some, None, option_and_then, decimal, if◌then◌else◌}
use Rattle.ss_text.specs.Texts.{Text, text_eq}
use Rattle.ss_text.specs.Whole.{whole_of}

-- the number where it is within, and the word spells it without sign or leading zeros
abbrev pub within : ℕ → ℕ → Text → ℤ → Option ℕ
within least most word (pos n) = if nat_le least n && nat_le n most && text_eq word (decimal n) then Some n else None
within least most word (negsuc n) = None

-- the number from one to another that a word spells so
abbrev pub number_in : ℕ → ℕ → Text → Option ℕ
number_in least most word = option_and_then (within least most word) (whole_of word)

-- how many changes are made
abbrev pub changes_of : Text → Option ℕ
changes_of word = number_in 1 200000 word

-- and with which seed
abbrev pub seed_of : Text → Option ℕ
seed_of word = number_in 0 999999 word
