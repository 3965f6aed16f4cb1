-- A kept side, after rows were added and taken away.
use Rattle.std.proofs.Common.{◌≡◌, ℕ, ◌+◌, ◌<◌, ◌≤◌, List, [], ◌∷◌, ◌++◌, Bool, true, false, cond, ◌||◌, length, take, get_or, refl, sym, ap, ◌∙◌, arith, append_assoc, zero, suc}
use Rattle.std.specs.List.{list_any}
use Rattle.std.specs.Cmp.Lexicographic.{pointwise_decides, bytes_decides}
use Rattle.std.proofs.lemmas.List.{take_more}
use Rattle.row_links.specs.Live.{LinkedRows, AddsFirst, without_first}
use Rattle.ss_text.specs.Texts.{Row, row_eq}
use Rattle.operator_law.specs.Bags.{weigh, is, come, go, FitsBag, MovesBag}
use Rattle.join_delta.specs.Ready.{ups_of, downs_of}
use Rattle.row_links.specs.Chained.{Placed}
use Rattle.operator_law.specs.declared.delta.Signed.{Signed}
use Rattle.join_delta.specs.Walks.{rows_of}
use Rattle.operator_law.proofs.Weights.{weigh-append}

pub rows_append : (xs ys : Placed) → rows_of (xs ++ ys) ≡ rows_of xs ++ rows_of ys
rows_append [] ys = refl
rows_append (x ∷ xs) ys = ap (λ (rs : List Row). x.1 ∷ rs) (rows_append xs ys)

-- one more row was added
pub record IsMore (old new : LinkedRows) : Type 0 where
  pub rows : rows_of new.live ++ new.waiting ≡ rows_of old.live ++ old.waiting
  pub fewer : length new.waiting + 1 ≡ length old.waiting
  pub keys : new.keys ≡ old.keys

pub adds_more : (old new : LinkedRows) → AddsFirst old new → IsMore old new
adds_more old new adds = record {
  rows =
      ap (λ (v : LinkedRows). rows_of v.live ++ v.waiting) adds.added
      ∙ ap (λ (rs : List Row). rs ++ adds.others) (rows_append old.live ((adds.place, adds.row) ∷ []))
      ∙ append_assoc (rows_of old.live) (adds.row ∷ []) adds.others
      ∙ ap (λ (ws : List Row). rows_of old.live ++ ws) (sym adds.waited);
  fewer = omega (arith, ap (λ (v : LinkedRows). length v.waiting) adds.added, ap length adds.waited);
  keys = ap (λ (v : LinkedRows). v.keys) adds.added;
}

same_is : (a b : Row) → row_eq a b ≡ true → a ≡ b
same_is a b e = (pointwise_decides bytes_decides a b).0 e

row_eq_swaps : (a b : Row) (r : Bool) → row_eq a b ≡ r → row_eq b a ≡ r
row_eq_swaps a b true e = (pointwise_decides bytes_decides b a).1 (sym (same_is a b e))
row_eq_swaps a b false e = other (row_eq b a) refl
  where
    other : (s : Bool) → row_eq b a ≡ s → s ≡ false
    other false f = refl
    other true f = absurd (let g = (pointwise_decides bytes_decides a b).1 (sym (same_is b a f)) in cc)

-- a row that was taken away weighs what is missing
pub weigh_taken : (f : Row → ℕ) (row : Row) (live : Placed) → list_any (λ e. row_eq e.1 row) live ≡ true → weigh f (rows_of live) ≡ weigh f (rows_of (without_first row live)) + f row
weigh_taken f row [] h = cc
weigh_taken f row (x ∷ xs) h = by (row_eq x.1 row) refl (weigh_taken f row xs)
  where
    by : (b : Bool) → row_eq x.1 row ≡ b → (list_any (λ e. row_eq e.1 row) xs ≡ true → weigh f (rows_of xs) ≡ weigh f (rows_of (without_first row xs)) + f row) → weigh f (rows_of (x ∷ xs)) ≡ weigh f (rows_of (without_first row (x ∷ xs))) + f row
    by true s rest =
        let is : without_first row (x ∷ xs) ≡ xs = ap (λ (b : Bool). cond b xs (x ∷ without_first row xs)) s in
        omega (arith, ap f (same_is x.1 row s), ap (λ es. weigh f (rows_of es)) is)
    by false s rest =
        let is : without_first row (x ∷ xs) ≡ x ∷ without_first row xs = ap (λ (b : Bool). cond b xs (x ∷ without_first row xs)) s in
        let any : list_any (λ e. row_eq e.1 row) xs ≡ true = sym (ap (λ (b : Bool). b || list_any (λ e. row_eq e.1 row) xs) s) ∙ h in
        omega (arith, rest any, ap (λ es. weigh f (rows_of es)) is)

-- a row that weighs something is there
pub there : (row : Row) (live : Placed) → 0 < weigh (is row) (rows_of live) → list_any (λ e. row_eq e.1 row) live ≡ true
there row [] h = absurd (omega arith)
there row (x ∷ xs) h = by (row_eq x.1 row) refl (there row xs)
  where
    by : (b : Bool) → row_eq x.1 row ≡ b → (0 < weigh (is row) (rows_of xs) → list_any (λ e. row_eq e.1 row) xs ≡ true) → list_any (λ e. row_eq e.1 row) (x ∷ xs) ≡ true
    by true s rest = ap (λ (b : Bool). b || list_any (λ e. row_eq e.1 row) xs) s
    by false s rest =
        ap (λ (b : Bool). b || list_any (λ e. row_eq e.1 row) xs) s
        ∙ rest (let none : is row x.1 ≡ 0 = ap (λ (b : Bool). cond b 1 0) (row_eq_swaps x.1 row false s) in omega arith)

weigh-more : {X : Type 0} (f : X → ℕ) (xs : List X) (i : ℕ) (x : X) → i < length xs → x ≡ get_or xs i x → weigh f (take (i + 1) xs) ≡ weigh f (take i xs) + f x
weigh-more f xs i x lt at = ap (weigh f) (take_more xs i x lt ∙ sym (ap (λ k. take i xs ++ k ∷ []) at)) ∙ (let e = weigh-append f (take i xs) (x ∷ []) in omega arith)

weigh-within : {X : Type 0} (f : X → ℕ) (xs : List X) (i : ℕ) (x : X) → i < length xs → x ≡ get_or xs i x → weigh f (take i xs) + f x ≤ weigh f xs
weigh-within f [] i x lt at = absurd (omega arith)
weigh-within f (y ∷ ys) zero x lt at = (let e = ap f at in omega arith)
weigh-within f (y ∷ ys) (suc i) x lt at = (let rest = weigh-within f ys i x (omega arith) at in omega arith)

own : (row : Row) → is row row ≡ 1
own row = ap (λ (b : Bool). cond b 1 0) ((pointwise_decides bytes_decides row row).1 refl)

-- one more row was taken away
pub takes_more : (downs : List Row) (i : ℕ) (row : Row) (first live : Placed) → i < length downs → row ≡ get_or downs i row → ((r : Row) → weigh (is r) downs ≤ weigh (is r) (rows_of first)) → ((f : Row → ℕ) → weigh f (rows_of first) ≡ weigh f (rows_of live) + weigh f (take i downs)) → (f : Row → ℕ) → weigh f (rows_of first) ≡ weigh f (rows_of (without_first row live)) + weigh f (take (i + 1) downs)
takes_more downs i row first live lt at fits was f =
    let some : 0 < weigh (is row) (rows_of live) = omega (arith, fits row, was (is row), weigh-within (is row) downs i row lt at, own row) in
    omega (arith, was f, weigh_taken f row live (there row live some), weigh-more f downs i row lt at)

pub come_ups : (f : Row → ℕ) (ms : List Signed) → come f ms ≡ weigh f (ups_of ms)
come_ups f [] = refl
come_ups f (m ∷ ms) = elim m.up as (λ b. cond b (f m.row) 0 + come f ms ≡ weigh f (cond b (m.row ∷ ups_of ms) (ups_of ms))) [
  | true ↦ omega (arith, come_ups f ms)
  | false ↦ omega (arith, come_ups f ms)
]

pub go_downs : (f : Row → ℕ) (ms : List Signed) → go f ms ≡ weigh f (downs_of ms)
go_downs f [] = refl
go_downs f (m ∷ ms) = elim m.up as (λ b. cond b 0 (f m.row) + go f ms ≡ weigh f (cond b (downs_of ms) (m.row ∷ downs_of ms))) [
  | true ↦ omega (arith, go_downs f ms)
  | false ↦ omega (arith, go_downs f ms)
]

pub fits_downs : (rows mid waits downs : List Row) (ms : List Signed) → mid ≡ rows ++ waits → waits ≡ ups_of ms → downs ≡ downs_of ms → FitsBag rows ms → (r : Row) → weigh (is r) downs ≤ weigh (is r) mid
fits_downs rows mid waits downs ms e u d fits r =
    omega (arith, fits r, come_ups (is r) ms, go_downs (is r) ms, ap (weigh (is r)) e, ap (weigh (is r)) u, ap (weigh (is r)) d, weigh-append (is r) rows waits)

pub side_moved : (rows mid waits downs left : List Row) (ms : List Signed) → mid ≡ rows ++ waits → waits ≡ ups_of ms → downs ≡ downs_of ms → ((f : Row → ℕ) → weigh f mid ≡ weigh f left + weigh f downs) → MovesBag rows ms left
side_moved rows mid waits downs left ms e u d taken f =
    omega (arith, taken f, come_ups f ms, go_downs f ms, ap (weigh f) e, ap (weigh f) u, ap (weigh f) d, weigh-append f rows waits)

ups_append : (xs ys : List Signed) → ups_of (xs ++ ys) ≡ ups_of xs ++ ups_of ys
ups_append [] ys = refl
ups_append (x ∷ xs) ys = elim x.up as (λ b. cond b (x.row ∷ ups_of (xs ++ ys)) (ups_of (xs ++ ys)) ≡ cond b (x.row ∷ ups_of xs) (ups_of xs) ++ ups_of ys) [
  | true ↦ ap (λ (rs : List Row). x.row ∷ rs) (ups_append xs ys)
  | false ↦ ups_append xs ys
]

downs_append : (xs ys : List Signed) → downs_of (xs ++ ys) ≡ downs_of xs ++ downs_of ys
downs_append [] ys = refl
downs_append (x ∷ xs) ys = elim x.up as (λ b. cond b (downs_of (xs ++ ys)) (x.row ∷ downs_of (xs ++ ys)) ≡ cond b (downs_of xs) (x.row ∷ downs_of xs) ++ downs_of ys) [
  | true ↦ downs_append xs ys
  | false ↦ ap (λ (rs : List Row). x.row ∷ rs) (downs_append xs ys)
]

pub copies_more : (up : Bool) (ms : List Signed) (i : ℕ) (m : Signed) (was now : List Row) → i < length ms → m ≡ get_or ms i m → was ≡ cond up (ups_of (take i ms)) (downs_of (take i ms)) → now ≡ was ++ cond up (ups_of (m ∷ [])) (downs_of (m ∷ [])) → now ≡ cond up (ups_of (take (i + 1) ms)) (downs_of (take (i + 1) ms))
copies_more up ms i m was now lt at h k =
    let more : take i ms ++ m ∷ [] ≡ take (i + 1) ms = ap (λ (n : Signed). take i ms ++ n ∷ []) at ∙ sym (take_more ms i m lt) in
    by up h k more
  where
    by : (up : Bool) → was ≡ cond up (ups_of (take i ms)) (downs_of (take i ms)) → now ≡ was ++ cond up (ups_of (m ∷ [])) (downs_of (m ∷ [])) → take i ms ++ m ∷ [] ≡ take (i + 1) ms → now ≡ cond up (ups_of (take (i + 1) ms)) (downs_of (take (i + 1) ms))
    by true h k more = k ∙ ap (λ (rs : List Row). rs ++ ups_of (m ∷ [])) h ∙ sym (ups_append (take i ms) (m ∷ [])) ∙ ap ups_of more
    by false h k more = k ∙ ap (λ (rs : List Row). rs ++ downs_of (m ∷ [])) h ∙ sym (downs_append (take i ms) (m ∷ [])) ∙ ap downs_of more
