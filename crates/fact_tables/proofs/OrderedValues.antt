-- The order of rows, text by text.
use Rattle.std.proofs.Common.{◌≡◌, ◌<◌, ◌≤◌, ◌+◌, ◌∙◌, ℕ, zero, suc, [], ◌∷◌, ◌++◌, length, take, drop, refl, sym, ap, arith}
use Rattle.std.specs.Prelude.{Some, None, slice_get}
use Rattle.std.specs.Ordering.{ordering_then}
use Rattle.std.specs.declared.cmp.Ordering.{Ordering}
use Rattle.std.specs.declared.cmp.Ordering.TheVariants.{Less, Equal, Greater}
use Rattle.ss_text.specs.Texts.{Text, Row, text_cmp, row_cmp}

some_there : (j : Row) (n : ℕ) (t : Text) → Some t ≡ slice_get j n → drop n j ≡ t ∷ drop (suc n) j
some_there [] n t h = absurd (cc)
some_there (a ∷ j) zero t h = cc
some_there (a ∷ j) (suc n) t h = some_there j n t h

nothing_there : (j : Row) (n : ℕ) → None ≡ slice_get j n → drop n j ≡ []
nothing_there [] zero h = refl
nothing_there [] (suc n) h = refl
nothing_there (a ∷ j) zero h = absurd (cc)
nothing_there (a ∷ j) (suc n) h = nothing_there j n h

-- rows compare from a place on by the texts there, and by what is behind these
pub both_there : (j k : Row) (n : ℕ) (s t : Text) → Some s ≡ slice_get j n → Some t ≡ slice_get k n
    → row_cmp (drop n j) (drop n k) ≡ ordering_then (text_cmp s t) (row_cmp (drop (suc n) j) (drop (suc n) k))
both_there j k n s t hj hk = rw (some_there j n s hj, some_there k n t hk) refl

-- or by which of them ends
pub none_there : (j k : Row) (n : ℕ) → None ≡ slice_get j n → None ≡ slice_get k n → row_cmp (drop n j) (drop n k) ≡ Equal
none_there j k n hj hk = rw (nothing_there j n hj, nothing_there k n hk) refl

pub one_there : (j k : Row) (n : ℕ) (s : Text) → Some s ≡ slice_get j n → None ≡ slice_get k n → row_cmp (drop n j) (drop n k) ≡ Greater
one_there j k n s hj hk = rw (some_there j n s hj, nothing_there k n hk) refl

pub other_there : (j k : Row) (n : ℕ) (t : Text) → None ≡ slice_get j n → Some t ≡ slice_get k n → row_cmp (drop n j) (drop n k) ≡ Less
other_there j k n t hj hk = rw (nothing_there j n hj, some_there k n t hk) refl

-- where the texts differ, what is behind them does not count
pub decided : (r o p : Ordering) → r ≡ o → (r ≡ Equal → ⊥) → r ≡ ordering_then o p
decided r Less p e differs = e
decided r Equal p e differs = absurd (differs e)
decided r Greater p e differs = e

-- and where they are the same, only what is behind them does
pub same_there : (j k : Row) (n : ℕ) (s t : Text) → Some s ≡ slice_get j n → Some t ≡ slice_get k n → text_cmp s t ≡ Equal
    → row_cmp (drop (n + 1) j) (drop (n + 1) k) ≡ row_cmp (drop n j) (drop n k)
same_there j k n s t hj hk e =
    let next : n + 1 ≡ suc n = omega arith in
    ap (λ m. row_cmp (drop m j) (drop m k)) next ∙ sym (both_there j k n s t hj hk ∙ ap (λ o. ordering_then o (row_cmp (drop (suc n) j) (drop (suc n) k))) e)

pub beyond : (j : Row) (n : ℕ) → length j ≤ n → None ≡ slice_get j n
beyond [] zero h = refl
beyond [] (suc n) h = refl
beyond (a ∷ j) zero h = absurd (omega (arith, h))
beyond (a ∷ j) (suc n) h = beyond j n (omega (arith, h))

-- so many of the first texts, and one more
pub one_more : (j : Row) (n : ℕ) (t : Text) → Some t ≡ slice_get j n → take n j ++ t ∷ [] ≡ take (suc n) j
one_more [] n t h = absurd (cc)
one_more (a ∷ j) zero t h = cc
one_more (a ∷ j) (suc n) t h = ap (λ xs. a ∷ xs) (one_more j n t h)

pub not_beyond : (j : Row) (n : ℕ) → n < length j → None ≡ slice_get j n → ⊥
not_beyond [] n within h = omega (arith, within)
not_beyond (a ∷ j) zero within h = absurd (cc)
not_beyond (a ∷ j) (suc n) within h = not_beyond j n (omega (arith, within)) h
