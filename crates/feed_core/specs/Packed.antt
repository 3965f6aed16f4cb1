-- Rows of texts as one list of bytes, and back.
use Rattle.std.specs.Prelude.{ℕ, zero, suc, ◌==◌, ◌&&◌, nat_le, Bool, false, List, [], ◌∷◌, ◌++◌, length, map, flat_map, take, drop, if◌then◌else◌}
use Rattle.std.specs.Int.{w64, to_le_bytes, from_le_bytes}
use Rattle.ss_text.specs.Texts.{Text, Row, row_eq}

-- the length of a text: one below 255 as one byte, any other as eight behind the byte 255
abbrev pub length_bytes : ℕ → List ℕ
length_bytes n = if nat_le n 254 then n ∷ [] else 255 ∷ to_le_bytes w64 n

-- a text behind its length; such texts, one after another; and rows, each as such a text
abbrev pub packed_text : Text → List ℕ
packed_text t = length_bytes (length t) ++ t

abbrev pub packed_row : Row → List ℕ
packed_row ts = flat_map packed_text ts

abbrev pub packed_rows : List Row → List ℕ
packed_rows rows = flat_map (λ row. packed_text (packed_row row)) rows

-- whether the length that stands first takes eight bytes more, which are those behind the first
abbrev pub is_wide : ℕ → List ℕ → Bool
is_wide n bytes = (n == 255) && nat_le 8 (length bytes)

-- the length that stands first, and what is behind it
abbrev pub first_length : List ℕ → ℕ
first_length [] = 0
first_length (n ∷ bytes) = if is_wide n bytes then from_le_bytes w64 (take 8 bytes) else n

abbrev pub behind_length : List ℕ → List ℕ
behind_length [] = []
behind_length (n ∷ bytes) = if is_wide n bytes then drop 8 bytes else bytes

-- the text that stands first, and what is behind it
abbrev pub first_text : List ℕ → Text
first_text bytes = take (first_length bytes) (behind_length bytes)

abbrev pub behind_text : List ℕ → List ℕ
behind_text bytes = drop (first_length bytes) (behind_length bytes)

-- at most so many texts, one after another, and all of them: each takes a byte or more
abbrev pub unpacked_by : ℕ → List ℕ → Row
unpacked_by zero bytes = []
unpacked_by (suc most) [] = []
unpacked_by (suc most) (n ∷ bytes) = first_text (n ∷ bytes) ∷ unpacked_by most (behind_text (n ∷ bytes))

abbrev pub unpacked_row : List ℕ → Row
unpacked_row bytes = unpacked_by (length bytes) bytes

abbrev pub unpacked_rows : List ℕ → List Row
unpacked_rows bytes = map unpacked_row (unpacked_row bytes)

-- whether a row is the first of some
abbrev pub is_first : Row → List Row → Bool
is_first row [] = false
is_first row (first ∷ rows) = row_eq row first
