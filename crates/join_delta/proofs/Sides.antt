-- The three parts of a join's change.
use Rattle.std.proofs.Common.{◌≡◌, ℕ, ◌+◌, ◌<◌, ◌≤◌, List, [], ◌∷◌, ◌++◌, true, false, filter, map, length, take, get_or, slice_index_or, refl, sym, ap, ◌∙◌, arith, append_assoc, append-nil}
use Rattle.std.specs.List.{flat_map, sum_by}
use Rattle.std.proofs.lemmas.List.{take_more}
use Rattle.std.proofs.lemmas.List.Sums.{sum_by_more, sum_by_more_le}
use Rattle.ss_text.specs.Texts.{Row}
use Rattle.operator_law.specs.Bags.{SameBag, weigh}
use Rattle.operator_law.proofs.Weights.{weigh-append, weigh-same, weigh-sum_by}
use Rattle.row_links.specs.Parts.{cells_at, same_cells}
use Rattle.row_links.proofs.Finding.{cells_sym, filter_same}
use Rattle.operator_law.specs.declared.delta.Signed.{Signed}
use Rattle.join_delta.specs.Joined.{matches, with_right, with_left, with_moves, joined_moves, pairs_right, pairs_left}
use Rattle.join_delta.specs.Partners.{paired, beside, pairs_of}

flat_map_same : {X Y : Type 0} (f g : X → List Y) (xs : List X) → ((x : X) → f x ≡ g x) → flat_map f xs ≡ flat_map g xs
flat_map_same f g [] h = refl
flat_map_same f g (x ∷ xs) h = λ i. h x i ++ flat_map_same f g xs h i

sum_same : {X : Type 0} (f g : X → ℕ) (xs : List X) → ((x : X) → f x ≡ g x) → sum_by f xs ≡ sum_by g xs
sum_same f g xs h = sym (weigh-sum_by f xs) ∙ weigh-same f g h xs ∙ weigh-sum_by g xs

module _ (left right : List ℕ) where
  -- the rows of the first side with the key cells of a move of the second
  beside_left : (xs : List Row) (n : Signed) → beside left right xs n ≡ filter (λ x. matches left right x n.row) xs
  beside_left xs n = filter_same (λ (x : Row). same_cells (cells_at left x) (cells_at right n.row)) (λ (x : Row). matches left right x n.row) xs (λ x. cells_sym (cells_at left x) (cells_at right n.row))

  pub left_part : (xs : List Row) (ns : List Signed) → flat_map (pairs_of true left right xs) ns ≡ flat_map (with_left (matches left right) xs) ns
  left_part xs ns = flat_map_same _ _ ns (λ n. ap (map (paired true n)) (beside_left xs n))

  pub left_cost : (xs : List Row) (ns : List Signed) → sum_by (λ m. length (beside left right xs m)) ns ≡ pairs_left (matches left right) xs ns
  left_cost xs ns = sum_same _ _ ns (λ n. ap length (beside_left xs n))

  pub right_part : (ys : List Row) (ms : List Signed) → flat_map (pairs_of false right left ys) ms ≡ flat_map (with_right (matches left right) ys) ms
  right_part ys ms = refl

  pub right_cost : (ys : List Row) (ms : List Signed) → sum_by (λ m. length (beside right left ys m)) ms ≡ pairs_right (matches left right) ys ms
  right_cost ys ms = refl

pub first_key : (keys : List (List ℕ)) (key : List ℕ) → keys ≡ key ∷ [] → slice_index_or keys 0 [] ≡ key
first_key keys key e = ap (λ (ks : List (List ℕ)). slice_index_or ks 0 []) e

flat_map_append : {X Y : Type 0} (f : X → List Y) (xs ys : List X) → flat_map f (xs ++ ys) ≡ flat_map f xs ++ flat_map f ys
flat_map_append f [] ys = refl
flat_map_append f (x ∷ xs) ys = ap (λ zs. f x ++ zs) (flat_map_append f xs ys) ∙ sym (append_assoc (f x) (flat_map f xs) (flat_map f ys))

-- one more turn of a loop that appends
pub flat_more : {X Y : Type 0} (f : X → List Y) (xs : List X) (i : ℕ) (x : X) (first now out : List Y) → i < length xs → x ≡ get_or xs i x → now ≡ first ++ flat_map f (take i xs) → out ≡ now ++ f x → out ≡ first ++ flat_map f (take (i + 1) xs)
flat_more f xs i x first now out lt at was is =
    is ∙ ap (λ ys. ys ++ f x) was ∙ append_assoc first (flat_map f (take i xs)) (f x)
    ∙ ap (λ ys. first ++ ys) (ap (λ ys. flat_map f (take i xs) ++ ys) (sym (append-nil (f x))) ∙ sym (flat_map_append f (take i xs) (x ∷ [])) ∙ ap (flat_map f) (ap (λ k. take i xs ++ k ∷ []) at ∙ sym (take_more xs i x lt)))

-- and that counts
pub cost_more : {X : Type 0} (f : X → ℕ) (xs : List X) (i : ℕ) (x : X) (start was now : ℕ) → i < length xs → x ≡ get_or xs i x → was ≤ start + sum_by f (take i xs) → now ≤ was + f x → now ≤ start + sum_by f (take (i + 1) xs)
cost_more f xs i x start was now lt at h k = omega (arith, sum_by_more f xs i x lt, ap f at)

pub cost_within : {X : Type 0} (f : X → ℕ) (xs : List X) (i : ℕ) (x : X) (start was now : ℕ) → i < length xs → x ≡ get_or xs i x → was ≤ start + sum_by f (take i xs) → now ≤ was + f x → now ≤ start + sum_by f xs
cost_within f xs i x start was now lt at h k = omega (arith, sum_by_more_le f xs i x lt, ap f at)

-- the three parts in turn, the third in some order
pub moves_are : (l r lk rk : List ℕ) (xs ys : List Row) (ms ns out0 out1 out2 out3 : List Signed) → lk ≡ l → rk ≡ r → out0 ≡ [] → out1 ≡ out0 ++ flat_map (pairs_of false rk l ys) ms → out2 ≡ out1 ++ flat_map (pairs_of true lk r xs) ns
    → ((f : Signed → ℕ) → weigh f out3 ≡ weigh f out2 + weigh f (flat_map (with_moves (matches l r) ns) ms)) → SameBag out3 (joined_moves (matches l r) xs ys ms ns)
moves_are l r lk rk xs ys ms ns out0 out1 out2 out3 el er e0 e1 e2 e3 f =
    let one : out1 ≡ flat_map (with_right (matches l r) ys) ms = e1 ∙ ap (λ (zs : List Signed). zs ++ flat_map (pairs_of false rk l ys) ms) e0 ∙ ap (λ (k : List ℕ). flat_map (pairs_of false k l ys) ms) er in
    let two : out2 ≡ flat_map (with_right (matches l r) ys) ms ++ flat_map (with_left (matches l r) xs) ns =
    e2 ∙ ap (λ (zs : List Signed). zs ++ flat_map (pairs_of true lk r xs) ns) one
    ∙ ap (λ (zs : List Signed). flat_map (with_right (matches l r) ys) ms ++ zs) (ap (λ (k : List ℕ). flat_map (pairs_of true k r xs) ns) el ∙ left_part l r xs ns) in
    omega (arith, e3 f, ap (weigh f) two, weigh-append f (flat_map (with_right (matches l r) ys) ms ++ flat_map (with_left (matches l r) xs) ns) (flat_map (with_moves (matches l r) ns) ms))
