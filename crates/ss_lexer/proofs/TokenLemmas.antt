-- The first of the tokens of some bytes, and those behind it.
use Rattle.std.proofs.Common.{◌≡◌, ℕ, zero, suc, ◌+◌, ◌-◌, ◌≤◌, Bool, true, false, ◌==◌, ◌&&◌, List, [], ◌∷◌, length, drop, Ok, Err, inl, inr, refl, sym, ap, ◌∙◌, subst, arith, cond, add-zero}
use Rattle.std.specs.Prelude.{IfOk, OnErr, slice_get}
use Rattle.std.specs.List.{prefix_len}
use Rattle.std.proofs.lemmas.List.{drop-drop}
use Rattle.std.proofs.lemmas.Bool.Decides.{eqb_tells}
use Rattle.std.proofs.Math.Bool.{and-true, and-false}
use Rattle.ss_lexer.specs.Spelling.{is_blank, first_passes}
use Rattle.ss_lexer.specs.declared.token.Kind.{Kind}
use Rattle.ss_lexer.specs.Tokens.{Answer, token, answer, is_num, followed, tokens_from, behind_first, IsFirst}
use Rattle.ss_lexer.proofs.Spans.{Stands, stands}

-- the tokens behind so many blanks
abbrev behind_some : Bool → ℕ → List ℕ → ℕ → List Answer
behind_some behind at xs n = tokens_from (behind && (n == 0)) 0 (at + n) (drop n xs)

behind_none : (behind : Bool) (at : ℕ) (xs : List ℕ) → tokens_from behind 0 at xs ≡ behind_some behind at xs 0
behind_none behind at xs = ap (λ b. tokens_from b 0 at xs) (sym (and-true behind)) ∙ ap (λ m. tokens_from (behind && true) 0 m xs) (sym (add-zero at))

behind_one : (behind : Bool) (at x : ℕ) (xs : List ℕ) (n : ℕ) → tokens_from false 0 (suc at) xs ≡ behind_some false (suc at) xs n → (b : Bool) → is_blank x ≡ b → tokens_from behind 0 at (x ∷ xs) ≡ behind_some behind at (x ∷ xs) (cond b (1 + n) 0)
behind_one behind at x xs n h false e = behind_none behind at (x ∷ xs)
behind_one behind at x xs n h true e =
    let d : drop (suc n) (x ∷ xs) ≡ drop (1 + n) (x ∷ xs) = ap (λ m. drop m (x ∷ xs)) (one_plus n) in
    rw e (h ∙ ap (λ b. tokens_from b 0 (suc at + n) (drop n xs)) (sym (not_none behind n)) ∙ ap (λ m. tokens_from (behind && (1 + n == 0)) 0 m (drop n xs)) (later at n) ∙ ap (tokens_from (behind && (1 + n == 0)) 0 (at + (1 + n))) d)
  where
    one_plus : (n : ℕ) → suc n ≡ 1 + n
    one_plus n = omega arith

    later : (at n : ℕ) → suc at + n ≡ at + (1 + n)
    later at n = omega arith

    not_none : (b : Bool) (n : ℕ) → (b && (1 + n == 0)) ≡ false
    not_none b n = ap (λ c. b && c) (elim (eqb_tells (1 + n) 0) as (λ _. (1 + n == 0) ≡ false) [ inl p ↦ absurd (omega arith) | inr p ↦ p.0 ]) ∙ and-false b

-- blanks mean nothing
pub behind_blanks : (behind : Bool) (at : ℕ) (xs : List ℕ) → tokens_from behind 0 at xs ≡ behind_some behind at xs (prefix_len is_blank xs)
behind_blanks behind at [] = behind_none behind at []
behind_blanks behind at (x ∷ xs) = behind_one behind at x xs (prefix_len is_blank xs) (behind_blanks false (suc at) xs) (is_blank x) refl

-- the first n bytes are passed over
pub passed_over : (behind : Bool) (n at : ℕ) (xs : List ℕ) → n ≤ length xs → tokens_from behind n at xs ≡ tokens_from behind 0 (at + n) (drop n xs)
passed_over behind zero at xs h = ap (λ m. tokens_from behind 0 m xs) (sym (add-zero at))
passed_over behind (suc n) at [] h = absurd (omega arith)
passed_over behind (suc n) at (x ∷ xs) h =
    let e : suc at + n ≡ at + suc n = omega arith in
    passed_over behind n (suc at) xs (omega arith) ∙ ap (λ m. tokens_from behind 0 m (drop n xs)) e

-- there is always one more, the last
some_followed : (a b : Answer) (rest : List Answer) → behind_first (a ∷ followed b rest) ≡ followed b rest
some_followed a (Ok t) rest = refl
some_followed a (Err e) rest = refl

one_more_by : (a : Answer) (behind : Bool) (at x : ℕ) (xs : List ℕ) → behind_first (a ∷ tokens_from false 0 (suc at) xs) ≡ tokens_from false 0 (suc at) xs → (b : Bool) → is_blank x ≡ b → behind_first (a ∷ tokens_from behind 0 at (x ∷ xs)) ≡ tokens_from behind 0 at (x ∷ xs)
one_more_by a behind at x xs h true e = rw e h
one_more_by a behind at x xs h false e = rw e (some_followed a (answer behind at (x ∷ xs)) _)

one_more : (a : Answer) (behind : Bool) (n at : ℕ) (xs : List ℕ) → behind_first (a ∷ tokens_from behind n at xs) ≡ tokens_from behind n at xs
one_more a behind n at [] = refl
one_more a behind (suc n) at (x ∷ xs) = one_more a behind n (suc at) xs
one_more a behind zero at (x ∷ xs) = one_more_by a behind at x xs (one_more a false 0 (suc at) xs) (is_blank x) refl

-- where no blank is first
first_of : (behind : Bool) (at x : ℕ) (xs : List ℕ) (a : Answer) → is_blank x ≡ false → answer behind at (x ∷ xs) ≡ a → Stands at (suc (length xs)) a → IsFirst behind at (x ∷ xs) a
first_of behind at x xs (Err f) e is h =
    let l : tokens_from behind 0 at (x ∷ xs) ≡ Err f ∷ [] = rw (e, is) refl in
    record { first = ap (λ m. slice_get m 0) l; left = tt; stays = ap behind_first l ∙ sym l; ahead = tt }
first_of behind at x xs (Ok t) e is h =
    let l : tokens_from behind 0 at (x ∷ xs) ≡ Ok t ∷ tokens_from (is_num t.kind) (t.to - t.from - 1) (suc at) xs = rw (e, is) refl in
    let n : suc (t.to - t.from - 1) ≡ t.to - at = omega arith in
    let to : suc at + (t.to - t.from - 1) ≡ t.to = omega arith in
    record {
      first = ap (λ m. slice_get m 0) l;
      left =
          ap behind_first l ∙ one_more (Ok t) (is_num t.kind) (t.to - t.from - 1) (suc at) xs
          ∙ passed_over (is_num t.kind) (t.to - t.from - 1) (suc at) xs (omega arith)
          ∙ ap (λ m. tokens_from (is_num t.kind) 0 m (drop (t.to - t.from - 1) xs)) to
          ∙ ap (λ m. tokens_from (is_num t.kind) 0 t.to (drop m (x ∷ xs))) n;
      stays = tt;
      ahead = omega arith;
    }

-- at the end
drop_none : (n : ℕ) → drop {A = ℕ} n [] ≡ []
drop_none zero = refl
drop_none (suc n) = refl

first_end : (behind : Bool) (at : ℕ) → IsFirst behind at [] (answer behind at [])
unfolding answer
first_end behind at = record {
  first = refl;
  left = ap (λ m. answer false m [] ∷ []) (sym (add-zero at)) ∙ ap (tokens_from false 0 (at + 0)) (sym (drop_none (at + 0 - at)));
  stays = tt;
  ahead = omega arith;
}

first_at : (behind : Bool) (at : ℕ) (xs : List ℕ) (a : Answer) → first_passes is_blank xs ≡ false → answer behind at xs ≡ a → IsFirst behind at xs a
first_at behind at [] a e is = subst (IsFirst behind at []) is (first_end behind at)
first_at behind at (x ∷ xs) a e is = first_of behind at x xs a e is (subst (Stands at (suc (length xs))) is (stands behind at x xs))

-- no blank is left behind the blanks
not_blank : (xs : List ℕ) → first_passes is_blank (drop (prefix_len is_blank xs) xs) ≡ false
not_blank [] = refl
not_blank (x ∷ xs) = not_blank_by x xs (not_blank xs) (is_blank x) refl
  where
    not_blank_by : (x : ℕ) (xs : List ℕ) → first_passes is_blank (drop (prefix_len is_blank xs) xs) ≡ false → (b : Bool) → is_blank x ≡ b → first_passes is_blank (drop (cond b (1 + prefix_len is_blank xs) 0) (x ∷ xs)) ≡ false
    not_blank_by x xs h true e = let one : 1 + prefix_len is_blank xs ≡ suc (prefix_len is_blank xs) = omega arith in ap (λ m. first_passes is_blank (drop m (x ∷ xs))) one ∙ h
    not_blank_by x xs h false e = e

module _ (behind : Bool) (at : ℕ) (xs : List ℕ) (k : ℕ) (e : tokens_from behind 0 at xs ≡ behind_some behind at xs k) where
  same_left : (a : Answer) → IfOk a (λ t. behind_first (behind_some behind at xs k) ≡ tokens_from (is_num t.kind) 0 t.to (drop (t.to - (at + k)) (drop k xs))) → IfOk a (λ t. at + k ≤ t.to) → IfOk a (λ t. behind_first (tokens_from behind 0 at xs) ≡ tokens_from (is_num t.kind) 0 t.to (drop (t.to - at) xs))
  same_left (Err f) l h = tt
  same_left (Ok t) l h =
      let n : k + (t.to - (at + k)) ≡ t.to - at = omega arith in
      ap behind_first e ∙ l ∙ ap (tokens_from (is_num t.kind) 0 t.to) (drop-drop (t.to - (at + k)) k xs ∙ ap (λ m. drop m xs) n)

  same_stays : (a : Answer) → OnErr a (behind_first (behind_some behind at xs k) ≡ behind_some behind at xs k) → OnErr a (behind_first (tokens_from behind 0 at xs) ≡ tokens_from behind 0 at xs)
  same_stays (Ok t) h = tt
  same_stays (Err f) h = ap behind_first e ∙ h ∙ sym e

  same_ahead : (a : Answer) → IfOk a (λ t. at + k ≤ t.to) → IfOk a (λ t. at ≤ t.to)
  same_ahead (Ok t) h = omega arith
  same_ahead (Err f) h = tt

  behind_first_of : (a : Answer) → IsFirst (behind && (k == 0)) (at + k) (drop k xs) a → IsFirst behind at xs a
  behind_first_of a h = record {
    first = ap (λ m. slice_get m 0) e ∙ h.first;
    left = same_left a h.left h.ahead;
    stays = same_stays a h.stays;
    ahead = same_ahead a h.ahead;
  }

pub is_first : (behind : Bool) (at : ℕ) (xs : List ℕ) (a : Answer) → answer (behind && (prefix_len is_blank xs == 0)) (at + prefix_len is_blank xs) (drop (prefix_len is_blank xs) xs) ≡ a → IsFirst behind at xs a
is_first behind at xs a is =
    let k = prefix_len is_blank xs in
    behind_first_of behind at xs k (behind_blanks behind at xs) a (first_at (behind && (k == 0)) (at + k) (drop k xs) a (not_blank xs) is)

-- a token in front, and the tokens behind it
pub front_token : (at x : ℕ) (xs : List ℕ) (k : Kind) (len : ℕ) → is_blank x ≡ false → answer false at (x ∷ xs) ≡ token at k (suc len) → len ≤ length xs → tokens_from false 0 at (x ∷ xs) ≡ token at k (suc len) ∷ tokens_from (is_num k) 0 (at + suc len) (drop len xs)
front_token at x xs k len e is h =
    let l : tokens_from false 0 at (x ∷ xs) ≡ token at k (suc len) ∷ tokens_from (is_num k) (at + suc len - at - 1) (suc at) xs = rw (e, is) refl in
    let n : at + suc len - at - 1 ≡ len = omega arith in
    let to : suc at + len ≡ at + suc len = omega arith in
    l ∙ ap (λ rest. token at k (suc len) ∷ rest)
    (ap (λ m. tokens_from (is_num k) m (suc at) xs) n ∙ passed_over (is_num k) len (suc at) xs h ∙ ap (λ m. tokens_from (is_num k) 0 m (drop len xs)) to)
