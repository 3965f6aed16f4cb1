-- How many bytes a token takes, by the bytes that it begins with.
use Rattle.std.specs.Prelude.{ℕ, suc, ◌+◌, Bool, false, ◌==◌, ◌&&◌, ◌||◌, nat_le, min, List, [], ◌∷◌, length, take, Option, Some, None, if◌then◌else◌, codes}
use Rattle.std.specs.Char.{is_ascii_digit}
use Rattle.std.specs.List.{prefix_len}
use Rattle.std.specs.Option.{option_map}
use Rattle.ss_text.specs.Texts.{Text, text_eq}

-- a space, TAB, LF or CR
abbrev pub is_blank : ℕ → Bool
is_blank b = (b == 32) || (b == 9) || (b == 10) || (b == 13)

-- an ASCII letter or `_`
abbrev pub is_letter : ℕ → Bool
is_letter b = (nat_le 65 b && nat_le b 90) || (nat_le 97 b && nat_le b 122) || (b == 95)

-- a letter, a digit or `_`
abbrev pub in_word : ℕ → Bool
in_word b = is_letter b || is_ascii_digit b

-- whether there is a first byte, and it passes
abbrev pub first_passes : (ℕ → Bool) → List ℕ → Bool
first_passes test [] = false
first_passes test (b ∷ bs) = test b

-- whether the first byte goes on a word: a letter, a digit or `_`, or a `-` that one of these follows
abbrev pub goes_on : List ℕ → Bool
goes_on [] = false
goes_on (b ∷ bs) = in_word b || ((b == 45) && first_passes in_word bs)

-- how many bytes go on a word
abbrev pub word_len : List ℕ → ℕ
word_len [] = 0
word_len (b ∷ bs) = if goes_on (b ∷ bs) then suc (word_len bs) else 0

-- how many bytes behind an opening quote q go up to the one that closes, which is the first that no other follows
abbrev pub quote_len : ℕ → List ℕ → Option ℕ
quote_len q [] = None
quote_len q (b ∷ []) = if b == q then Some 1 else None
quote_len q (b ∷ c ∷ bs) =
    if b == q
    then (if c == q then option_map (λ n. 2 + n) (quote_len q bs) else Some 1)
    else option_map (λ n. 1 + n) (quote_len q (c ∷ bs))

-- how many digits begin the bytes, but no more than 18
abbrev pub digits_len : List ℕ → ℕ
digits_len bytes = min (prefix_len is_ascii_digit bytes) 18

-- the signs, the longer ones first
abbrev pub signs : List Text
signs = codes "::" ∷ codes "->" ∷ codes "<>" ∷ codes "<=" ∷ codes ">=" ∷ codes "(" ∷ codes ")" ∷ codes "," ∷ codes "." ∷ codes ";" ∷ codes "=" ∷ codes "<" ∷ codes ">" ∷ []

-- the length of the first of these with which the bytes begin, or 0
abbrev pub first_len : List Text → List ℕ → ℕ
first_len [] bytes = 0
first_len (s ∷ ss) bytes = if text_eq (take (length s) bytes) s then length s else first_len ss bytes

abbrev pub sign_len : List ℕ → ℕ
sign_len bytes = first_len signs bytes
