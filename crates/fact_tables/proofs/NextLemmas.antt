-- Rows compare as their fronts do, and as what is next to these.
use Rattle.std.proofs.Common.{◌≡◌, ◌<◌, ◌%◌, ◌∙◌, ℕ, [], ◌∷◌, length, drop, take, get_or, refl, Bool, true, false, sym, ap, arith}
use Rattle.std.specs.declared.cmp.Ordering.{Ordering}
use Rattle.std.specs.declared.cmp.Ordering.TheVariants.{Less, Equal, Greater}
use Rattle.std.specs.Ordering.{nat_cmp, ordering_then}
use Rattle.std.proofs.lemmas.Bool.{ltb-true, ltb-false}
use Rattle.ss_text.specs.Texts.{Text, Row, text_cmp, row_cmp}
use Rattle.ss_text.specs.Front.{front_of, is_whole, AreDigits, first_of}
use Rattle.ss_text.proofs.FrontLemmas.{equal_is, by_fronts, whole_same, behind_same, rows_by_fronts}
use Rattle.fact_tables.specs.Next.{next_of, holds_first, shortened, BeginsWith}

-- what is next to the front
next_whole : (t : Text) (ts : Row) → is_whole 7 (front_of 7 t) ≡ true → next_of (t ∷ ts) ≡ first_of ts
next_whole t ts whole = rw whole refl

next_long : (t : Text) (ts : Row) → is_whole 7 (front_of 7 t) ≡ false → next_of (t ∷ ts) ≡ drop 7 t
next_long t ts long = rw long refl

below_some : (t : Text) (ts : Row) (r : Ordering) → r ≡ row_cmp [] ts → (r ≡ Equal → ⊥) → r ≡ row_cmp [] (t ∷ ts)
below_some t [] r is differs = absurd (differs is)
below_some t (u ∷ us) r is differs = is

above_none : (s : Text) (ss : Row) (r : Ordering) → r ≡ row_cmp ss [] → (r ≡ Equal → ⊥) → r ≡ row_cmp (s ∷ ss) []
above_none s [] r is differs = absurd (differs is)
above_none s (u ∷ us) r is differs = is

-- and where these are the same, as their next fronts do
pub rows_by_next : (j k : Row) → AreDigits 7 (first_of j) → AreDigits 7 (first_of k) → AreDigits 7 (next_of j) → AreDigits 7 (next_of k) → front_of 7 (first_of j) ≡ front_of 7 (first_of k)
    → (r : Ordering) → r ≡ nat_cmp (front_of 7 (next_of j)) (front_of 7 (next_of k)) → (r ≡ Equal → ⊥) → r ≡ row_cmp j k
rows_by_next [] [] hj hk nj nk e r is differs = absurd (differs (is ∙ equal_is 0 0 refl))
rows_by_next [] (t ∷ ts) hj hk nj nk e r is differs =
    let whole : is_whole 7 (front_of 7 t) ≡ true = rw (← e) refl in
    below_some t ts r (rows_by_fronts [] ts hj (rw (next_whole t ts whole) at nk) r (rw (next_whole t ts whole) at is) differs) differs
rows_by_next (s ∷ ss) [] hj hk nj nk e r is differs =
    let whole : is_whole 7 (front_of 7 s) ≡ true = rw e refl in
    above_none s ss r (rows_by_fronts ss [] (rw (next_whole s ss whole) at nj) hk r (rw (next_whole s ss whole) at is) differs) differs
rows_by_next (s ∷ ss) (t ∷ ts) hj hk nj nk e r is differs = by_whole (is_whole 7 (front_of 7 s)) refl
  where
    decided : (o p : Ordering) → (o ≡ Equal → ⊥) → o ≡ ordering_then o p
    decided Less p d = refl
    decided Equal p d = absurd (d refl)
    decided Greater p d = refl

    by_whole : (b : Bool) → is_whole 7 (front_of 7 s) ≡ b → r ≡ row_cmp (s ∷ ss) (t ∷ ts)
    by_whole true whole =
        let also : is_whole 7 (front_of 7 t) ≡ true = rw (← e) whole in
        let rest : r ≡ row_cmp ss ts = rows_by_fronts ss ts (rw (next_whole s ss whole) at nj) (rw (next_whole t ts also) at nk) r (rw (next_whole s ss whole, next_whole t ts also) at is) differs in
        rest ∙ sym (ap (λ o. ordering_then o (row_cmp ss ts)) (whole_same 7 (omega arith) s t hj hk e (ltb-true (front_of 7 s % 256) 8 whole)))
    by_whole false long =
        let also : is_whole 7 (front_of 7 t) ≡ false = rw (← e) long in
        let rest : r ≡ text_cmp (drop 7 s) (drop 7 t) = by_fronts 7 (omega arith) (drop 7 s) (drop 7 t) (rw (next_long s ss long) at nj) (rw (next_long t ts also) at nk) r (rw (next_long s ss long, next_long t ts also) at is) differs in
        let first : r ≡ text_cmp s t = rest ∙ behind_same 7 (omega arith) s t hj hk e (ltb-false (front_of 7 s % 256) 8 long) in
        first ∙ decided (text_cmp s t) (row_cmp ss ts) (λ same. differs (first ∙ same))

-- where the fronts hold their first texts, rows compare as what is behind these
pub behind_fronts : (j k : Row) → AreDigits 7 (first_of j) → AreDigits 7 (first_of k) → AreDigits 7 (next_of j) → AreDigits 7 (next_of k) → 0 < length j → 0 < length k
    → front_of 7 (first_of j) ≡ front_of 7 (first_of k) → front_of 7 (next_of j) ≡ front_of 7 (next_of k) → holds_first (front_of 7 (first_of j)) (front_of 7 (next_of j)) ≡ true
    → row_cmp (drop 1 j) (drop 1 k) ≡ row_cmp j k
behind_fronts [] k hj hk nj nk some others e next holds = absurd (omega (arith, some))
behind_fronts (s ∷ ss) [] hj hk nj nk some others e next holds = absurd (omega (arith, others))
behind_fronts (s ∷ ss) (t ∷ ts) hj hk nj nk some others e next holds =
    sym (ap (λ o. ordering_then o (row_cmp ss ts)) (by_whole (is_whole 7 (front_of 7 s)) refl))
  where
    by_whole : (b : Bool) → is_whole 7 (front_of 7 s) ≡ b → text_cmp s t ≡ Equal
    by_whole true whole = whole_same 7 (omega arith) s t hj hk e (ltb-true (front_of 7 s % 256) 8 whole)
    by_whole false long =
        let also : is_whole 7 (front_of 7 t) ≡ false = rw (← e) long in
        let whole : is_whole 7 (front_of 7 (drop 7 s)) ≡ true = rw (next_long s ss long, long) at holds in
        let same : front_of 7 (drop 7 s) ≡ front_of 7 (drop 7 t) = rw (next_long s ss long, next_long t ts also) at next in
        sym (behind_same 7 (omega arith) s t hj hk e (ltb-false (front_of 7 s % 256) 8 long))
        ∙ whole_same 7 (omega arith) (drop 7 s) (drop 7 t) (rw (next_long s ss long) at nj) (rw (next_long t ts also) at nk) same (ltb-true (front_of 7 (drop 7 s) % 256) 8 whole)

-- texts that begin alike compare as what is behind that
behind_beginning : (p s t : Text) → take (length p) s ≡ p → take (length p) t ≡ p → text_cmp (drop (length p) s) (drop (length p) t) ≡ text_cmp s t
behind_beginning [] s t hs ht = refl
behind_beginning (b ∷ p) [] t hs ht = absurd (cc)
behind_beginning (b ∷ p) (a ∷ s) [] hs ht = absurd (cc)
behind_beginning (b ∷ p) (a ∷ s) (c ∷ t) hs ht =
    behind_beginning p s t (ap (drop 1) hs) (ap (drop 1) ht)
    ∙ sym (ap (λ o. ordering_then o (text_cmp s t)) (equal_is a c (ap (λ xs. get_or xs 0 0) hs ∙ sym (ap (λ xs. get_or xs 0 0) ht))))

-- and so do rows whose first texts do
pub rows_behind : (p : Text) (j k : Row) → BeginsWith p j → BeginsWith p k → row_cmp (shortened (length p) j) (shortened (length p) k) ≡ row_cmp j k
rows_behind p [] [] hj hk = refl
rows_behind p [] (t ∷ ts) hj hk = refl
rows_behind p (s ∷ ss) [] hj hk = refl
rows_behind p (s ∷ ss) (t ∷ ts) hj hk = ap (λ o. ordering_then o (row_cmp ss ts)) (behind_beginning p s t hj hk)

-- a shortened row has as many texts, of which all but the first are the same
pub shortened_len : (n : ℕ) (j : Row) → length (shortened n j) ≡ length j
shortened_len n [] = refl
shortened_len n (s ∷ ss) = refl

pub shortened_rest : (n : ℕ) (j : Row) → drop 1 (shortened n j) ≡ drop 1 j
shortened_rest n [] = refl
shortened_rest n (s ∷ ss) = refl
