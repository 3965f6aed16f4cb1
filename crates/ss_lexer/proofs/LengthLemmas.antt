-- One step on the way to the end of a token.
use Rattle.std.proofs.Common.{◌≡◌, ◌≢◌, ◌==◌, inl, inr, ℕ, zero, suc, ◌+◌, ◌<◌, true, false, List, [], ◌∷◌, length, drop, get_or, Option, Some, None, refl, sym, ap, ◌∙◌, arith, length-drop, add_assoc}
use Rattle.std.specs.Option.{option_map}
use Rattle.std.proofs.lemmas.List.{drop-drop}
use Rattle.std.proofs.lemmas.Bool.Decides.{eqb_tells}
use Rattle.ss_lexer.specs.Spelling.{goes_on, word_len, quote_len}

word_len_first : (xs : List ℕ) → goes_on xs ≡ true → word_len xs ≡ 1 + word_len (drop 1 xs)
word_len_first [] h = absurd (cc)
word_len_first (b ∷ bs) h = rw h (omega arith)

goes_on_inside : (i : ℕ) (bs : List ℕ) → goes_on (drop i bs) ≡ true → i < length bs
goes_on_inside zero [] h = absurd (cc)
goes_on_inside zero (b ∷ bs) h = omega arith
goes_on_inside (suc i) [] h = absurd (cc)
goes_on_inside (suc i) (b ∷ bs) h = omega (arith, goes_on_inside i bs h)

pub word_len_step : (i : ℕ) (bs : List ℕ) → goes_on (drop i bs) ≡ true → (i + word_len (drop i bs) ≡ i + 1 + word_len (drop (i + 1) bs)) × (i < length bs)
word_len_step i bs h =
    let e = word_len_first (drop i bs) h ∙ ap (λ xs. 1 + word_len xs) (drop-drop 1 i bs) in
    (ap (λ n. i + n) e ∙ sym (add_assoc i 1 (word_len (drop (i + 1) bs))), goes_on_inside i bs h)

shifted : (m n k : ℕ) (o : Option ℕ) → m + n ≡ k → option_map (λ x. m + x) (option_map (λ x. n + x) o) ≡ option_map (λ x. k + x) o
shifted m n k None e = refl
shifted m n k (Some x) e = let h : m + (n + x) ≡ k + x = omega arith in ap Some h

pub differs : (a b : ℕ) → a ≢ b → (a == b) ≡ false
differs a b ne = elim (eqb_tells a b) [ inl p ↦ absurd (ne p.1) | inr p ↦ p.0 ]

pub same : (a b : ℕ) → a ≡ b → (a == b) ≡ true
same a b e = elim (eqb_tells a b) [ inl p ↦ p.0 | inr p ↦ absurd (p.1 e) ]

-- a byte that is no quote is passed over
pub other_first : (q : ℕ) (xs : List ℕ) → 0 < length xs → get_or xs 0 0 ≢ q → quote_len q xs ≡ option_map (λ x. 1 + x) (quote_len q (drop 1 xs))
other_first q [] lt ne = absurd (omega arith)
other_first q (b ∷ []) lt ne = rw (differs b q ne) refl
other_first q (b ∷ c ∷ bs) lt ne = rw (differs b q ne) refl

-- two quotes are passed over
pub double_first : (q : ℕ) (xs : List ℕ) → 1 < length xs → get_or xs 0 0 ≡ q → get_or xs 1 0 ≡ q → quote_len q xs ≡ option_map (λ x. 2 + x) (quote_len q (drop 2 xs))
double_first q [] lt e f = absurd (omega arith)
double_first q (b ∷ []) lt e f = absurd (omega arith)
double_first q (b ∷ c ∷ bs) lt e f = rw (same b q e, same c q f) refl

pub quote_len_other : (q i : ℕ) (bs : List ℕ) → i < length bs → get_or (drop i bs) 0 0 ≢ q → option_map (λ x. i + x) (quote_len q (drop i bs)) ≡ option_map (λ x. i + 1 + x) (quote_len q (drop (i + 1) bs))
quote_len_other q i bs lt ne =
    ap (option_map (λ x. i + x)) (other_first q (drop i bs) (omega (arith, length-drop i bs)) ne ∙ ap (λ xs. option_map (λ x. 1 + x) (quote_len q xs)) (drop-drop 1 i bs))
    ∙ shifted i 1 (i + 1) (quote_len q (drop (i + 1) bs)) refl

pub quote_len_double : (q i : ℕ) (bs : List ℕ) → 1 + i < length bs → get_or (drop i bs) 0 0 ≡ q → get_or (drop i bs) 1 0 ≡ q → option_map (λ x. i + x) (quote_len q (drop i bs)) ≡ option_map (λ x. i + 2 + x) (quote_len q (drop (i + 2) bs))
quote_len_double q i bs lt e f =
    ap (option_map (λ x. i + x)) (double_first q (drop i bs) (omega (arith, length-drop i bs)) e f ∙ ap (λ xs. option_map (λ x. 2 + x) (quote_len q xs)) (drop-drop 2 i bs))
    ∙ shifted i 2 (i + 2) (quote_len q (drop (i + 2) bs)) refl
