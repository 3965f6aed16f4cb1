-- What is packed is unpacked as it was.
use Rattle.std.proofs.Common.{◌≡◌, ◌∷◌, ◌++◌, ◌∙◌, ◌+◌, ◌<◌, ◌≤◌, ◌^◌, ◌==◌, ◌&&◌, nat_le, ℕ, zero, suc, [], Bool, true, false, cond, List, refl, sym, ap, subst, length, take, drop, map, arith, length-append, length-drop, append_assoc}
use Rattle.std.specs.Int.{w64, to_le_bytes, from_le_bytes}
use Rattle.std.proofs.lemmas.Nat.{from_le_bytes-to_le_bytes_8}
use Rattle.std.proofs.lemmas.Bool.{leb-true, le-leb, ne_eqb}
use Rattle.std.proofs.Math.Seq.{take-append_seam, drop-append_seam}
use Rattle.ss_text.specs.Texts.{Text, Row, text_eq, row_eq}
use Rattle.feed_core.specs.Packed.{length_bytes, packed_text, packed_row, packed_rows, is_wide, first_text, behind_text, unpacked_by, unpacked_row, unpacked_rows, is_first}

-- where so many and more are taken, all are
pub all_taken : (n : ℕ) (xs : List ℕ) → length xs ≤ n → take n xs ≡ take (length xs) xs
all_taken zero [] h = refl
all_taken (suc n) [] h = refl
all_taken zero (x ∷ xs) h = absurd (omega (arith, h))
all_taken (suc n) (x ∷ xs) h = ap (λ ys. x ∷ ys) (all_taken n xs (omega (arith, h)))

pub none_left : (n : ℕ) (xs : List ℕ) → length xs ≤ n → drop n xs ≡ drop (length xs) xs
none_left zero [] h = refl
none_left (suc n) [] h = refl
none_left zero (x ∷ xs) h = absurd (omega (arith, h))
none_left (suc n) (x ∷ xs) h = none_left n xs (omega (arith, h))

-- a text that stands first takes a byte or more
behind_shorter : (n : ℕ) (bytes : List ℕ) → length (behind_text (n ∷ bytes)) ≤ length bytes
behind_shorter n bytes = by_width (is_wide n bytes)
  where
    by_width : (b : Bool) → length (drop (cond b (from_le_bytes w64 (take 8 bytes)) n) (cond b (drop 8 bytes) bytes)) ≤ length bytes
    by_width true = omega (arith, length-drop (from_le_bytes w64 (take 8 bytes)) (drop 8 bytes), length-drop 8 bytes)
    by_width false = omega (arith, length-drop n bytes)

pub behind_less : (bytes : List ℕ) → 0 < length bytes → length (behind_text bytes) < length bytes
behind_less [] h = absurd (omega (arith, h))
behind_less (n ∷ bytes) h = omega (arith, behind_shorter n bytes)

none_unpacked : (most : ℕ) → unpacked_by most [] ≡ []
none_unpacked zero = refl
none_unpacked (suc most) = refl

-- where as many texts may be there as there are bytes, more may
enough : (most more : ℕ) (bytes : List ℕ) → length bytes ≤ most → length bytes ≤ more → unpacked_by most bytes ≡ unpacked_by more bytes
enough most more [] h k = none_unpacked most ∙ sym (none_unpacked more)
enough zero more (n ∷ bytes) h k = absurd (omega (arith, h))
enough (suc most) zero (n ∷ bytes) h k = absurd (omega (arith, k))
enough (suc most) (suc more) (n ∷ bytes) h k =
    ap (λ (ts : Row). first_text (n ∷ bytes) ∷ ts) (enough most more (behind_text (n ∷ bytes)) (omega (arith, behind_shorter n bytes, h)) (omega (arith, behind_shorter n bytes, k)))

-- the first text of a row, and those behind it
pub first_unpacked : (bytes : List ℕ) → 0 < length bytes → unpacked_row bytes ≡ first_text bytes ∷ unpacked_row (behind_text bytes)
first_unpacked [] h = absurd (omega (arith, h))
first_unpacked (n ∷ bytes) h =
    let same : length (behind_text (n ∷ bytes)) ≤ length (behind_text (n ∷ bytes)) = omega arith in
    ap (λ (ts : Row). first_text (n ∷ bytes) ∷ ts) (enough (length bytes) (length (behind_text (n ∷ bytes))) (behind_text (n ∷ bytes)) (behind_shorter n bytes) same)

-- the texts that were read, with one more
pub one_unpacked : (texts new : Row) (bytes behind whole : List ℕ) (text : Text) → 0 < length bytes → text ≡ first_text bytes → behind ≡ behind_text bytes → new ≡ texts ++ text ∷ []
    → texts ++ unpacked_row bytes ≡ unpacked_row whole → new ++ unpacked_row behind ≡ unpacked_row whole
one_unpacked texts new bytes behind whole text some first rest more e =
    ap (λ (ts : Row). ts ++ unpacked_row behind) more ∙ append_assoc texts (text ∷ []) (unpacked_row behind)
    ∙ ap (λ (t : Text). texts ++ t ∷ unpacked_row behind) first ∙ ap (λ (bs : List ℕ). texts ++ first_text bytes ∷ unpacked_row bs) rest
    ∙ ap (λ (ts : Row). texts ++ ts) (sym (first_unpacked bytes some)) ∙ e

-- a row with this text first is compared text by text
pub first_compared : (text : Text) (texts : Row) (bytes : List ℕ) → 0 < length bytes
    → row_eq (text ∷ texts) (unpacked_row bytes) ≡ text_eq text (first_text bytes) && row_eq texts (unpacked_row (behind_text bytes))
first_compared text texts bytes h = ap (λ (ts : Row). row_eq (text ∷ texts) ts) (first_unpacked bytes h)

pub first_row : (row : Row) (bytes : List ℕ) → 0 < length bytes → is_first row (unpacked_rows bytes) ≡ row_eq row (unpacked_row (first_text bytes))
first_row row bytes h = ap (λ (ts : Row). is_first row (map unpacked_row ts)) (first_unpacked bytes h)

-- a packed text is the first that is read
text_first : (t : Text) (rest : List ℕ) → length t < 2 ^ 64 → (first_text (packed_text t ++ rest) ≡ t) × (behind_text (packed_text t ++ rest) ≡ rest)
text_first t rest small = by_size (nat_le (length t) 254) refl
  where
    bytes : Bool → List ℕ
    bytes b = (cond b (length t ∷ []) (255 ∷ to_le_bytes w64 (length t)) ++ t) ++ rest

    by_size : (b : Bool) → nat_le (length t) 254 ≡ b → (first_text (bytes b) ≡ t) × (behind_text (bytes b) ≡ rest)
    by_size true e =
        let least : length t ≤ 254 = leb-true (length t) 254 e in
        let other : (length t == 255) ≡ false = ne_eqb (length t) 255 (λ k. omega (arith, k, least)) in
        let narrow : is_wide (length t) (t ++ rest) ≡ false = ap (λ b. b && nat_le 8 (length (t ++ rest))) other in (
          ap (λ b. take (cond b (from_le_bytes w64 (take 8 (t ++ rest))) (length t)) (cond b (drop 8 (t ++ rest)) (t ++ rest))) narrow ∙ take-append_seam t rest,
          ap (λ b. drop (cond b (from_le_bytes w64 (take 8 (t ++ rest))) (length t)) (cond b (drop 8 (t ++ rest)) (t ++ rest))) narrow ∙ drop-append_seam t rest,
        )
    by_size false e =
        let wide : List ℕ = to_le_bytes w64 (length t) in
        let all : List ℕ = (wide ++ t) ++ rest in
        let eight : length wide ≡ 8 = refl in
        let there : 8 ≤ length all = omega (arith, length-append (wide ++ t) rest, length-append wide t, eight) in
        let is : is_wide 255 all ≡ true = le-leb 8 (length all) there in
        let number : from_le_bytes w64 wide ≡ length t = from_le_bytes-to_le_bytes_8 (length t) small in (
          ap (λ b. take (cond b (from_le_bytes w64 (take 8 all)) 255) (cond b (drop 8 all) all)) is ∙ ap (λ n. take n (t ++ rest)) number ∙ take-append_seam t rest,
          ap (λ b. drop (cond b (from_le_bytes w64 (take 8 all)) 255) (cond b (drop 8 all) all)) is ∙ ap (λ n. drop n (t ++ rest)) number ∙ drop-append_seam t rest,
        )

some_length : (n : ℕ) → 1 ≤ length (length_bytes n)
some_length n = by_size (nat_le n 254)
  where
    by_size : (b : Bool) → 1 ≤ length (cond b (n ∷ []) (255 ∷ to_le_bytes w64 n))
    by_size true = omega arith
    by_size false = omega arith

some_text : (t : Text) (rest : List ℕ) → 1 + length t + length rest ≤ length (packed_text t ++ rest)
some_text t rest = omega (arith, length-append (packed_text t) rest, length-append (length_bytes (length t)) t, some_length (length t))

one_more : (most : ℕ) (bytes : List ℕ) → 0 < length bytes → unpacked_by (suc most) bytes ≡ first_text bytes ∷ unpacked_by most (behind_text bytes)
one_more most [] h = absurd (omega (arith, h))
one_more most (n ∷ bytes) h = refl

row_back : (most : ℕ) (row : Row) → length (packed_row row) ≤ most → length (packed_row row) < 2 ^ 64 → unpacked_by most (packed_row row) ≡ row
row_back most [] h k = none_unpacked most
row_back zero (t ∷ ts) h k = absurd (omega (arith, some_text t (packed_row ts), h))
row_back (suc most) (t ∷ ts) h k =
    let size : 1 + length t + length (packed_row ts) ≤ length (packed_row (t ∷ ts)) = some_text t (packed_row ts) in
    let first = text_first t (packed_row ts) (omega (arith, size, k)) in
    one_more most (packed_row (t ∷ ts)) (omega (arith, size))
    ∙ ap (λ (x : Text). x ∷ unpacked_by most (behind_text (packed_row (t ∷ ts)))) first.0 ∙ ap (λ (bytes : List ℕ). t ∷ unpacked_by most bytes) first.1
    ∙ ap (λ (xs : Row). t ∷ xs) (row_back most ts (omega (arith, size, h)) (omega (arith, size, k)))

whole_row : (row : Row) → length (packed_row row) < 2 ^ 64 → unpacked_row (packed_row row) ≡ row
whole_row row k = let same : length (packed_row row) ≤ length (packed_row row) = omega arith in row_back (length (packed_row row)) row same k

-- rows are packed as the row of what each is packed to
as_row : (rows : List Row) → packed_rows rows ≡ packed_row (map packed_row rows)
as_row [] = refl
as_row (row ∷ rows) = ap (λ (bytes : List ℕ). packed_text (packed_row row) ++ bytes) (as_row rows)

each_back : (rows : List Row) → length (packed_rows rows) < 2 ^ 64 → map unpacked_row (map packed_row rows) ≡ rows
each_back [] k = refl
each_back (row ∷ rows) k =
    let size : 1 + length (packed_row row) + length (packed_rows rows) ≤ length (packed_rows (row ∷ rows)) = some_text (packed_row row) (packed_rows rows) in
    ap (λ (x : Row). x ∷ map unpacked_row (map packed_row rows)) (whole_row row (omega (arith, size, k))) ∙ ap (λ (xs : List Row). row ∷ xs) (each_back rows (omega (arith, size, k)))

pub rows_back : (rows : List Row) → length (packed_rows rows) < 2 ^ 64 → unpacked_rows (packed_rows rows) ≡ rows
rows_back rows k =
    let small : length (packed_row (map packed_row rows)) < 2 ^ 64 = subst (λ (bytes : List ℕ). length bytes < 2 ^ 64) (as_row rows) k in
    ap (λ (bytes : List ℕ). unpacked_rows bytes) (as_row rows) ∙ ap (λ (ts : Row). map unpacked_row ts) (whole_row (map packed_row rows) small) ∙ each_back rows k

-- no texts are those of no bytes alone
pub none_compared : (bytes : List ℕ) → row_eq [] (unpacked_row bytes) ≡ (length bytes == 0)
none_compared [] = refl
none_compared (n ∷ bytes) = ap (λ (ts : Row). row_eq [] ts) (first_unpacked (n ∷ bytes) (omega arith)) ∙ sym (ne_eqb (suc (length bytes)) 0 (λ e. omega (arith, e)))
