-- The bytes of a text that its front holds whole.
use Rattle.std.proofs.Common.{◌≡◌, ◌+◌, ◌*◌, ◌/◌, ◌%◌, ◌^◌, ◌<◌, ◌≤◌, ◌∙◌, ℕ, zero, suc, List, [], ◌∷◌, ◌++◌, length, drop, take, get_or, refl, true, false, sym, ap, arith}
use Rattle.std.specs.Prelude.{min, slice_get, Some}
use Rattle.std.specs.Int.{w64, to_be_bytes}
use Rattle.std.proofs.lemmas.Bool.{ltb-false}
use native.Mathlib.Nat.{div-div-eq-div-mul, pow-suc}
use Rattle.ss_text.specs.Texts.{Text, Row}
use Rattle.ss_text.specs.Front.{with_bytes, front_of, is_whole, AreDigits, first_of}
use Rattle.fact_tables.specs.Next.{next_of, shortened}

-- the first n bytes, 0 for each that is missing
padded : ℕ → Text → List ℕ
padded zero t = []
padded (suc n) t = get_or t 0 0 ∷ padded n (drop 1 t)

-- byte i of a number, where byte 0 is the lowest, and its lowest k bytes, the highest of them first
byte_at : ℕ → ℕ → ℕ
byte_at zero n = n % 256
byte_at (suc i) n = n / 256 ^ suc i % 256

bytes_high_first : ℕ → ℕ → List ℕ
bytes_high_first zero n = []
bytes_high_first (suc k) n = byte_at k n ∷ bytes_high_first k n

-- the number before digits and one more byte
before : (n a c : ℕ) (t : Text) → AreDigits n t → c < 256 → (with_bytes a n t * 256 + c) / 256 ^ suc n ≡ a
before zero a c t h small = omega (arith, small)
before (suc n) a c t h small =
    let number = with_bytes (a * 256 + get_or t 0 0) n (drop 1 t) * 256 + c in
    let inner = before n (a * 256 + get_or t 0 0) c (drop 1 t) h.1 small in
    ap (λ p. number / p) (pow-suc 256 (suc n)) ∙ sym (div-div-eq-div-mul number (256 ^ suc n) 256)
    ∙ ap (λ x. x / 256) inner ∙ omega (arith, h.0)

-- digits and one more byte are the bytes of their number
bytes_are : (n a c : ℕ) (t : Text) → AreDigits n t → c < 256 → bytes_high_first (suc n) (with_bytes a n t * 256 + c) ≡ padded n t ++ c ∷ []
unfolding padded byte_at bytes_high_first
bytes_are zero a c t h small = let last : (a * 256 + c) % 256 ≡ c = omega (arith, small) in ap (λ x. x ∷ []) last
bytes_are (suc n) a c t h small =
    let byte = get_or t 0 0 in
    let number = with_bytes (a * 256 + byte) n (drop 1 t) * 256 + c in
    let first : number / 256 ^ suc n % 256 ≡ byte = ap (λ x. x % 256) (before n (a * 256 + byte) c (drop 1 t) h.1 small) ∙ omega (arith, h.0) in
    ap (λ x. x ∷ bytes_high_first (suc n) number) first ∙ ap (λ xs. byte ∷ xs) (bytes_are n (a * 256 + byte) c (drop 1 t) h.1 small)

taken : (n : ℕ) (t : Text) (rest : List ℕ) → length t ≤ n → take (length t) (padded n t ++ rest) ≡ t
unfolding padded
taken n [] rest h = refl
taken zero (b ∷ t) rest h = absurd (omega (arith, h))
taken (suc n) (b ∷ t) rest h = ap (λ xs. b ∷ xs) (taken n t rest (omega (arith, h)))

-- a text that is as short as the front says
whole_bytes : (n : ℕ) (t : Text) → n < 255 → AreDigits n t → front_of n t % 256 < n + 1 → take (front_of n t % 256) (bytes_high_first (suc n) (front_of n t)) ≡ t
whole_bytes n t small h whole =
    let size : front_of n t % 256 ≡ length t = omega (arith, small, whole) in
    let short : length t ≤ n = omega (arith, small, whole) in
    ap (λ k. take k (bytes_high_first (suc n) (front_of n t))) size
    ∙ ap (take (length t)) (bytes_are n 0 (min (length t) (n + 1)) t h (omega (arith, small)))
    ∙ taken n t (min (length t) (n + 1) ∷ []) short

pub short_bytes : (t : Text) → AreDigits 7 t → front_of 7 t % 256 < 8 → take (front_of 7 t % 256) (to_be_bytes w64 (front_of 7 t)) ≡ t
unfolding byte_at bytes_high_first
short_bytes t h whole = whole_bytes 7 t (omega arith) h whole

-- the first bytes of a longer text
begun : (n : ℕ) (t : Text) (rest : List ℕ) → n ≤ length t → take n (padded n t ++ rest) ++ drop n t ≡ t
unfolding padded
begun zero t rest h = refl
begun (suc n) [] rest h = absurd (omega (arith, h))
begun (suc n) (b ∷ t) rest h = ap (λ xs. b ∷ xs) (begun n t rest (omega (arith, h)))

long_begun : (n : ℕ) (t : Text) → n < 255 → AreDigits n t → n + 1 ≤ front_of n t % 256 → take n (bytes_high_first (suc n) (front_of n t)) ++ drop n t ≡ t
long_begun n t small h long =
    ap (λ xs. take n xs ++ drop n t) (bytes_are n 0 (min (length t) (n + 1)) t h (omega (arith, small)))
    ∙ begun n t (min (length t) (n + 1) ∷ []) (omega (arith, small, long))

seven_bytes : (t : Text) → AreDigits 7 t → 8 ≤ front_of 7 t % 256 → take 7 (to_be_bytes w64 (front_of 7 t)) ++ drop 7 t ≡ t
unfolding byte_at bytes_high_first
seven_bytes t h long = long_begun 7 t (omega arith) h long

first_is : (row : Row) → 0 < length row → Some (first_of row) ≡ slice_get row 0
first_is [] some = absurd (omega (arith, some))
first_is (t ∷ ts) some = refl

rest_is : (row : Row) → is_whole 7 (front_of 7 (first_of row)) ≡ false → next_of row ≡ drop 7 (first_of row)
rest_is [] long = refl
rest_is (t ∷ ts) long = rw long refl

module _ (row : Row) (h : AreDigits 7 (first_of row)) (some : 0 < length row) where
  -- the first text of a row, by its front
  pub first_bytes : front_of 7 (first_of row) % 256 < 8 → Some (take (front_of 7 (first_of row) % 256) (to_be_bytes w64 (front_of 7 (first_of row)))) ≡ slice_get row 0
  first_bytes whole = ap Some (short_bytes (first_of row) h whole) ∙ first_is row some

  -- and by the next front too
  pub both_bytes : AreDigits 7 (next_of row) → is_whole 7 (front_of 7 (first_of row)) ≡ false → front_of 7 (next_of row) % 256 < 8
      → Some (take 7 (to_be_bytes w64 (front_of 7 (first_of row))) ++ take (front_of 7 (next_of row) % 256) (to_be_bytes w64 (front_of 7 (next_of row)))) ≡ slice_get row 0
  both_bytes next long whole =
      ap (λ xs. Some (take 7 (to_be_bytes w64 (front_of 7 (first_of row))) ++ xs)) (short_bytes (next_of row) next whole ∙ rest_is row long)
      ∙ ap Some (seven_bytes (first_of row) h (ltb-false (front_of 7 (first_of row) % 256) 8 long)) ∙ first_is row some

-- the second text of a row, by the next front
second_bytes : (row : Row) → 1 < length row → AreDigits 7 (next_of row) → is_whole 7 (front_of 7 (first_of row)) ≡ true → front_of 7 (next_of row) % 256 < 8
    → Some (take (front_of 7 (next_of row) % 256) (to_be_bytes w64 (front_of 7 (next_of row)))) ≡ slice_get row 1
second_bytes [] some next held whole = absurd (omega (arith, some))
second_bytes (s ∷ []) some next held whole = absurd (omega (arith, some))
second_bytes (s ∷ t ∷ ts) some next held whole =
    let is : next_of (s ∷ t ∷ ts) ≡ t = rw held refl in
    ap Some (short_bytes (next_of (s ∷ t ∷ ts)) next whole ∙ is)

-- also where the front is of what stands behind a beginning
pub second_behind : (n : ℕ) (row : Row) → 1 < length row → AreDigits 7 (next_of (shortened n row)) → is_whole 7 (front_of 7 (first_of (shortened n row))) ≡ true → front_of 7 (next_of (shortened n row)) % 256 < 8
    → Some (take (front_of 7 (next_of (shortened n row)) % 256) (to_be_bytes w64 (front_of 7 (next_of (shortened n row))))) ≡ slice_get row 1
second_behind n [] some next held whole = absurd (omega (arith, some))
second_behind n (s ∷ ts) some next held whole = second_bytes (drop n s ∷ ts) some next held whole

-- and where the beginning is empty
pub shortened_by_none : (beginning : Text) (row : Row) → beginning ≡ [] → shortened (length beginning) row ≡ row
shortened_by_none beginning [] h = refl
shortened_by_none beginning (s ∷ ts) h = rw h refl
