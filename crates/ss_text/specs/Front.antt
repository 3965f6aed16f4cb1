-- The front of a text: a number by which most texts compare.
use Rattle.std.specs.Prelude.{ℕ, zero, suc, ◌+◌, ◌*◌, ◌%◌, ◌<◌, nat_lt, Bool, [], ◌∷◌, length, drop, min, slice_index_or}
use Rattle.ss_text.specs.Texts.{Text, Row}

-- a number with these bytes behind it as digits, 0 for each that is missing
abbrev pub with_bytes : ℕ → ℕ → Text → ℕ
with_bytes number zero t = number
with_bytes number (suc n) t = with_bytes (number * 256 + slice_index_or t 0 0) n (drop 1 t)

-- the first n bytes, and behind them the length, where it is at most n
abbrev pub front_of : ℕ → Text → ℕ
front_of n t = with_bytes 0 n t * 256 + min (length t) (n + 1)

-- whether a front of n bytes has all bytes of its text
abbrev pub is_whole : ℕ → ℕ → Bool
is_whole n front = nat_lt (front % 256) (n + 1)

-- so many of the first bytes are digits
abbrev pub AreDigits : ℕ → Text → Type 0
AreDigits zero t = Unit {0}
AreDigits (suc n) t = (slice_index_or t 0 0 < 256) × AreDigits n (drop 1 t)

-- the first text of a row, or an empty one
abbrev pub first_of : Row → Text
first_of [] = []
first_of (t ∷ ts) = t
