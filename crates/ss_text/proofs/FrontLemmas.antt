-- Texts compare as their fronts do.
use Rattle.std.proofs.Common.{◌≡◌, ◌+◌, ◌*◌, ◌<◌, ◌≤◌, ◌%◌, ◌∙◌, ◌⊎◌, inl, inr, ℕ, zero, suc, [], ◌∷◌, length, drop, get_or, refl, sym, ap, subst, arith}
use Rattle.std.specs.declared.cmp.Ordering.{Ordering}
use Rattle.std.specs.declared.cmp.Ordering.TheVariants.{Less, Equal, Greater}
use Rattle.std.specs.Ordering.{nat_cmp, ordering_then, ordering_reverse}
use Rattle.std.specs.Cmp.{nat_cmp_is}
use Rattle.std.specs.Cmp.Lexicographic.{nat_list_cmp_total}
use Rattle.std.proofs.lemmas.Bool.{cases_order}
use Rattle.ss_text.specs.Texts.{Text, Row, text_cmp, row_cmp}
use Rattle.ss_text.specs.Front.{with_bytes, front_of, AreDigits, first_of}

pub less_is : (x y : ℕ) → x < y → nat_cmp x y ≡ Less
less_is x y lt = sym (nat_cmp_is x y Less lt)

pub equal_is : (x y : ℕ) → x ≡ y → nat_cmp x y ≡ Equal
equal_is x y e = sym (nat_cmp_is x y Equal e)

pub greater_is : (x y : ℕ) → y < x → nat_cmp x y ≡ Greater
greater_is x y gt = sym (nat_cmp_is x y Greater gt)

-- a greater number stays greater, whatever digits follow
greater_stays : (n a b : ℕ) (s t : Text) → a < b → AreDigits n s → with_bytes a n s < with_bytes b n t
greater_stays zero a b s t lt h = lt
greater_stays (suc n) a b s t lt h = greater_stays n (a * 256 + get_or s 0 0) (b * 256 + get_or t 0 0) (drop 1 s) (drop 1 t) (omega (arith, lt, h.0)) h.1

never_below : (s : Text) → text_cmp s [] ≡ Less → ⊥
never_below [] h = absurd (cc)
never_below (a ∷ s) h = absurd (cc)

-- digits that give less are those of a text that is less
less : (n number : ℕ) (s t : Text) → AreDigits n s → AreDigits n t → with_bytes number n s < with_bytes number n t → text_cmp s t ≡ Less
less zero number s t hs ht lt = absurd (omega (arith, lt))
less (suc n) number [] [] hs ht lt = less n (number * 256 + 0) [] [] hs.1 ht.1 lt
less (suc n) number [] (b ∷ t) hs ht lt = refl
less (suc n) number (a ∷ s) [] hs ht lt = absurd (by_first (less n (number * 256 + 0) s [] hs.1 ht.1) (cases_order a 0))
  where
    by_first : (with_bytes (number * 256 + 0) n s < with_bytes (number * 256 + 0) n [] → text_cmp s [] ≡ Less) → (a ≡ 0) ⊎ ((a < 0) ⊎ (0 < a)) → ⊥
    by_first later (inl e) = never_below s (later (subst (λ k. with_bytes (number * 256 + k) n s < with_bytes (number * 256 + 0) n []) e lt))
    by_first later (inr (inl h)) = omega (arith, h)
    by_first later (inr (inr h)) = omega (arith, lt, greater_stays n (number * 256 + 0) (number * 256 + a) [] s (omega (arith, h)) ht.1)
less (suc n) number (a ∷ s) (b ∷ t) hs ht lt = by_first (less n (number * 256 + b) s t hs.1 ht.1) (cases_order a b)
  where
    by_first : (with_bytes (number * 256 + b) n s < with_bytes (number * 256 + b) n t → text_cmp s t ≡ Less) → (a ≡ b) ⊎ ((a < b) ⊎ (b < a)) → text_cmp (a ∷ s) (b ∷ t) ≡ Less
    by_first later (inl e) = ap (λ o. ordering_then o (text_cmp s t)) (equal_is a b e) ∙ later (subst (λ k. with_bytes (number * 256 + k) n s < with_bytes (number * 256 + b) n t) e lt)
    by_first later (inr (inl h)) = ap (λ o. ordering_then o (text_cmp s t)) (less_is a b h)
    by_first later (inr (inr h)) = absurd (omega (arith, lt, greater_stays n (number * 256 + b) (number * 256 + a) t s (omega (arith, h)) ht.1))

one_longer : (m n : ℕ) → nat_cmp m n ≡ nat_cmp (suc m) (suc n)
one_longer m n = by_order (cases_order m n)
  where
    by_order : (m ≡ n) ⊎ ((m < n) ⊎ (n < m)) → nat_cmp m n ≡ nat_cmp (suc m) (suc n)
    by_order (inl e) = equal_is m n e ∙ sym (equal_is (suc m) (suc n) (ap suc e))
    by_order (inr (inl h)) = less_is m n h ∙ sym (less_is (suc m) (suc n) (omega (arith, h)))
    by_order (inr (inr h)) = greater_is m n h ∙ sym (greater_is (suc m) (suc n) (omega (arith, h)))

-- where they give the same, a text that ends before they do compares by its length
tied : (s t : Text) (n number : ℕ) → AreDigits n s → AreDigits n t → with_bytes number n s ≡ with_bytes number n t → length s ≤ n → text_cmp s t ≡ nat_cmp (length s) (length t)
tied [] [] n number hs ht e short = sym (equal_is 0 0 refl)
tied [] (b ∷ t) n number hs ht e short = sym (less_is 0 (suc (length t)) (omega arith))
tied (a ∷ s) [] n number hs ht e short = sym (greater_is (suc (length s)) 0 (omega arith))
tied (a ∷ s) (b ∷ t) zero number hs ht e short = absurd (omega (arith, short))
tied (a ∷ s) (b ∷ t) (suc n) number hs ht e short = by_first (λ same. tied s t n (number * 256 + b) hs.1 ht.1 same (omega (arith, short))) (cases_order a b)
  where
    by_first : (with_bytes (number * 256 + b) n s ≡ with_bytes (number * 256 + b) n t → text_cmp s t ≡ nat_cmp (length s) (length t)) → (a ≡ b) ⊎ ((a < b) ⊎ (b < a)) → text_cmp (a ∷ s) (b ∷ t) ≡ nat_cmp (suc (length s)) (suc (length t))
    by_first later (inl same) =
        ap (λ o. ordering_then o (text_cmp s t)) (equal_is a b same)
        ∙ later (subst (λ k. with_bytes (number * 256 + k) n s ≡ with_bytes (number * 256 + b) n t) same e)
        ∙ one_longer (length s) (length t)
    by_first later (inr (inl h)) = absurd (omega (arith, e, greater_stays n (number * 256 + a) (number * 256 + b) s t (omega (arith, h)) hs.1))
    by_first later (inr (inr h)) = absurd (omega (arith, e, greater_stays n (number * 256 + b) (number * 256 + a) t s (omega (arith, h)) ht.1))

module _ (n : ℕ) (small : n < 255) (s t : Text) (hs : AreDigits n s) (ht : AreDigits n t) where
  -- texts whose fronts differ compare as these do
  below : front_of n s < front_of n t → text_cmp s t ≡ Less
  below lt = by_digits (cases_order (with_bytes 0 n s) (with_bytes 0 n t))
    where
      by_digits : (with_bytes 0 n s ≡ with_bytes 0 n t) ⊎ ((with_bytes 0 n s < with_bytes 0 n t) ⊎ (with_bytes 0 n t < with_bytes 0 n s)) → text_cmp s t ≡ Less
      by_digits (inl e) = tied s t n 0 hs ht e (omega (arith, lt, e, small)) ∙ less_is (length s) (length t) (omega (arith, lt, e, small))
      by_digits (inr (inl h)) = less n 0 s t hs ht h
      by_digits (inr (inr h)) = absurd (omega (arith, lt, h, small))

  -- texts that their fronts hold whole are the same where these are
  pub whole_same : front_of n s ≡ front_of n t → front_of n s % 256 < n + 1 → text_cmp s t ≡ Equal
  whole_same e whole = tied s t n 0 hs ht (omega (arith, e, small)) (omega (arith, whole, small)) ∙ equal_is (length s) (length t) (omega (arith, e, whole, small))

module _ (n : ℕ) (small : n < 255) (s t : Text) (hs : AreDigits n s) (ht : AreDigits n t) where
  pub by_fronts : (r : Ordering) → r ≡ nat_cmp (front_of n s) (front_of n t) → (r ≡ Equal → ⊥) → r ≡ text_cmp s t
  by_fronts r is differs = by_order (cases_order (front_of n s) (front_of n t))
    where
      by_order : (front_of n s ≡ front_of n t) ⊎ ((front_of n s < front_of n t) ⊎ (front_of n t < front_of n s)) → r ≡ text_cmp s t
      by_order (inl e) = absurd (differs (is ∙ equal_is (front_of n s) (front_of n t) e))
      by_order (inr (inl h)) = is ∙ less_is (front_of n s) (front_of n t) h ∙ sym (below n small s t hs ht h)
      by_order (inr (inr h)) = is ∙ greater_is (front_of n s) (front_of n t) h ∙ sym (nat_list_cmp_total.antisymm s t ∙ ap ordering_reverse (below n small t s ht hs h))

-- texts that begin with the same bytes compare as what is behind these
behind_begun : (n number : ℕ) (s t : Text) → AreDigits n s → AreDigits n t → with_bytes number n s ≡ with_bytes number n t → n ≤ length s → n ≤ length t → text_cmp (drop n s) (drop n t) ≡ text_cmp s t
behind_begun zero number s t hs ht e ls lt = refl
behind_begun (suc n) number [] t hs ht e ls lt = absurd (omega (arith, ls))
behind_begun (suc n) number (a ∷ s) [] hs ht e ls lt = absurd (omega (arith, lt))
behind_begun (suc n) number (a ∷ s) (b ∷ t) hs ht e ls lt = by_first (λ same. behind_begun n (number * 256 + b) s t hs.1 ht.1 same (omega (arith, ls)) (omega (arith, lt))) (cases_order a b)
  where
    by_first : (with_bytes (number * 256 + b) n s ≡ with_bytes (number * 256 + b) n t → text_cmp (drop n s) (drop n t) ≡ text_cmp s t) → (a ≡ b) ⊎ ((a < b) ⊎ (b < a)) → text_cmp (drop n s) (drop n t) ≡ text_cmp (a ∷ s) (b ∷ t)
    by_first later (inl same) =
        later (subst (λ k. with_bytes (number * 256 + k) n s ≡ with_bytes (number * 256 + b) n t) same e)
        ∙ sym (ap (λ o. ordering_then o (text_cmp s t)) (equal_is a b same))
    by_first later (inr (inl h)) = absurd (omega (arith, e, greater_stays n (number * 256 + a) (number * 256 + b) s t (omega (arith, h)) hs.1))
    by_first later (inr (inr h)) = absurd (omega (arith, e, greater_stays n (number * 256 + b) (number * 256 + a) t s (omega (arith, h)) ht.1))

module _ (n : ℕ) (small : n < 255) (s t : Text) (hs : AreDigits n s) (ht : AreDigits n t) (e : front_of n s ≡ front_of n t) (long : n + 1 ≤ front_of n s % 256) where
  -- and so do those whose fronts are the same and do not hold them whole
  pub behind_same : text_cmp (drop n s) (drop n t) ≡ text_cmp s t
  behind_same = behind_begun n 0 s t hs ht (omega (arith, e, small)) (omega (arith, long, small)) (omega (arith, e, long, small))

-- rows whose first fronts differ compare as these do
pub rows_by_fronts : (j k : Row) → AreDigits 7 (first_of j) → AreDigits 7 (first_of k) → (r : Ordering) → r ≡ nat_cmp (front_of 7 (first_of j)) (front_of 7 (first_of k)) → (r ≡ Equal → ⊥) → r ≡ row_cmp j k
rows_by_fronts [] [] hj hk r is differs = absurd (differs (is ∙ equal_is 0 0 refl))
rows_by_fronts [] (t ∷ ts) hj hk r is differs = by_order (cases_order 0 (front_of 7 t))
  where
    by_order : (0 ≡ front_of 7 t) ⊎ ((0 < front_of 7 t) ⊎ (front_of 7 t < 0)) → r ≡ Less
    by_order (inl e) = absurd (differs (is ∙ equal_is 0 (front_of 7 t) e))
    by_order (inr (inl h)) = is ∙ less_is 0 (front_of 7 t) h
    by_order (inr (inr h)) = absurd (omega (arith, h))
rows_by_fronts (s ∷ ss) [] hj hk r is differs = by_order (cases_order (front_of 7 s) 0)
  where
    by_order : (front_of 7 s ≡ 0) ⊎ ((front_of 7 s < 0) ⊎ (0 < front_of 7 s)) → r ≡ Greater
    by_order (inl e) = absurd (differs (is ∙ equal_is (front_of 7 s) 0 e))
    by_order (inr (inl h)) = absurd (omega (arith, h))
    by_order (inr (inr h)) = is ∙ greater_is (front_of 7 s) 0 h
rows_by_fronts (s ∷ ss) (t ∷ ts) hj hk r is differs =
    let first : r ≡ text_cmp s t = by_fronts 7 (omega arith) s t hj hk r is differs in
    first ∙ decided (text_cmp s t) (row_cmp ss ts) (λ e. differs (first ∙ e))
  where
    decided : (o p : Ordering) → (o ≡ Equal → ⊥) → o ≡ ordering_then o p
    decided Less p d = refl
    decided Equal p d = absurd (d refl)
    decided Greater p d = refl
