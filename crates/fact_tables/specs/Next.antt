-- How the fronts of a row compare: that of its first text, and that of what is next to it.
use Rattle.std.specs.Prelude.{ℕ, ◌≡◌, Bool, ◌||◌, if◌then◌else◌, [], ◌∷◌, length, drop, take}
use Rattle.ss_text.specs.Texts.{Text, Row}
use Rattle.ss_text.specs.Front.{front_of, is_whole, first_of}

-- what is next to the front of the first text: the second text, where that front has all bytes, and else those that are left
abbrev pub next_of : Row → Text
next_of [] = []
next_of (t ∷ ts) = if is_whole 7 (front_of 7 t) then first_of ts else drop 7 t

-- whether the fronts of a row have all bytes of its first text
abbrev pub holds_first : ℕ → ℕ → Bool
holds_first front next = is_whole 7 front || is_whole 7 next

-- a row without so many of the first bytes of its first text
abbrev pub shortened : ℕ → Row → Row
shortened n [] = []
shortened n (t ∷ ts) = drop n t ∷ ts

-- whether the first text of a row begins with this one
abbrev pub BeginsWith : Text → Row → Type 0
BeginsWith beginning row = take (length beginning) (first_of row) ≡ beginning
