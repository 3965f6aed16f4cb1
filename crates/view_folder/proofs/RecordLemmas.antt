-- The records of a table's file.
use Rattle.std.proofs.Common.{◌≡◌, ◌<◌, ◌≤◌, ◌+◌, ◌-◌, ◌==◌, ◌∷◌, ◌++◌, ◌∙◌, [], ℕ, List, Bool, true, false, Some, None, cond, refl, sym, ap, subst, zero, suc, length, map, take, drop, get_or, arith, inl, inr, eq-eqb, append_assoc}
use Rattle.std.specs.Prelude.{unwrap_or}
use Rattle.std.specs.List.{AllByRecursion, list_all, AllAdjacentBelow}
use Rattle.std.specs.List.Sorted.{IsStrictlySortedBy}
use Rattle.std.specs.Ordering.{is_lt}
use Rattle.std.specs.Cmp.{IsTotalOrder}
use Rattle.std.specs.declared.cmp.Ordering.{Ordering}
use Rattle.std.specs.declared.cmp.Ordering.TheVariants.{Less, Equal, Greater}
use Rattle.std.proofs.lemmas.Bool.{and_parts, cases_Bool, eqb-true}
use Rattle.std.proofs.lemmas.List.{length-take, length-drop, length-append, drop_all, take-append-drop, map-append}
use Rattle.std.proofs.lemmas.Map.Keys.{sorted_from_all_adjacent, Less-from_sorted}
use Rattle.ss_text.specs.Texts.{Row, row_cmp}
use Rattle.ss_text.proofs.KeyLemmas.{row_order, equal_is}
use Rattle.ss_text.proofs.GroupLemmas.{strict_front}
use Rattle.csv_catalog.proofs.ListLemmas.{next_left}
use Rattle.flow_law.specs.declared.shape.Shape.{Shape}
use Rattle.flow_law.specs.Tables.{TableValue, table_value, row_keys, row_at}
use Rattle.view_folder.specs.Records.{ascends, ragged, dynamic_count, behind_spot, before_spot, dynamic_part, constant_part, is_header, are_of_view, are_columns, key_and_cells, table_under}
use Rattle.view_folder.specs.Held.{KeysFit}

-- a list ascends where each of its elements is less than those behind it
module _ {A : Type 0} (R : A → A → Ordering) where
  pub lt_is : (o : Ordering) → is_lt o ≡ true → o ≡ Less
  lt_is Less e = refl
  lt_is Equal e = absurd (cc)
  lt_is Greater e = absurd (cc)

  all_less : (x : A) (xs : List A) → list_all (λ y. is_lt (R x y)) xs ≡ true → AllByRecursion (λ y. R x y ≡ Less) xs
  all_less x [] h = tt
  all_less x (y ∷ ys) h = let both = and_parts (is_lt (R x y)) (list_all (λ z. is_lt (R x z)) ys) h in (lt_is (R x y) both.0, all_less x ys both.1)

  less_all : (x : A) (xs : List A) → AllByRecursion (λ y. R x y ≡ Less) xs → list_all (λ y. is_lt (R x y)) xs ≡ true
  less_all x [] h = refl
  less_all x (y ∷ ys) h = rw h.0 (less_all x ys h.1)

  pub ascends_strict : (xs : List A) → ascends R xs ≡ true → IsStrictlySortedBy R xs
  unfolding IsStrictlySortedBy
  ascends_strict [] h = tt
  ascends_strict (x ∷ xs) h = let both = and_parts (list_all (λ y. is_lt (R x y)) xs) (ascends R xs) h in (all_less x xs both.0, ascends_strict xs both.1)

  pub strict_ascends : (xs : List A) → IsStrictlySortedBy R xs → ascends R xs ≡ true
  unfolding IsStrictlySortedBy
  strict_ascends [] h = refl
  strict_ascends (x ∷ xs) h = rw (less_all x xs h.0) (strict_ascends xs h.1)

  pub not_strict : (xs : List A) → (IsStrictlySortedBy R xs → ⊥) → ascends R xs ≡ false
  not_strict xs never = elim (cases_Bool (ascends R xs)) [
    | inl holds ↦ absurd (never (ascends_strict xs holds))
    | inr e ↦ e
  ]

  -- neighbours decide it
  pub adjacent_ascends : IsTotalOrder R → (xs : List A) → AllAdjacentBelow (λ x y. R x y ≡ Less) xs (length xs) → ascends R xs ≡ true
  adjacent_ascends o [] h = refl
  adjacent_ascends o (x ∷ xs) h = strict_ascends (x ∷ xs) (sorted_from_all_adjacent o (x ∷ xs) x (λ k lt. h k x lt))

  same_at : (xs : List A) (i : ℕ) (d e : A) → i < length xs → get_or xs i d ≡ get_or xs i e
  same_at [] i d e lt = absurd (omega (arith, lt))
  same_at (x ∷ xs) zero d e lt = refl
  same_at (x ∷ xs) (suc i) d e lt = same_at xs i d e (omega (arith, lt))

  pub not_adjacent : (xs : List A) (k : ℕ) (x y : A) → k + 1 < length xs → x ≡ get_or xs k x → y ≡ get_or xs (k + 1) y → is_lt (R x y) ≡ false → ascends R xs ≡ false
  not_adjacent xs k x y lt is next never = not_strict xs (λ s.
      let less : R x y ≡ Less = ap (λ z. R z y) is ∙ ap (R (get_or xs k x)) (next ∙ same_at xs (k + 1) y x lt) ∙ Less-from_sorted R xs k (k + 1) x s (omega arith) lt in
      clash (R x y) less never)
    where
      clash : (o : Ordering) → o ≡ Less → is_lt o ≡ false → ⊥
      clash Less e f = cc f
      clash Equal e f = cc e
      clash Greater e f = cc e

-- rows of the header's length
pub none_ragged : (want nth : ℕ) (rows : List Row) → ragged want nth rows ≡ None → AllByRecursion (λ (row : Row). length row ≡ want) rows
unfolding ragged
none_ragged want nth [] e = tt
none_ragged want nth (row ∷ rows) e = elim (cases_Bool (length row == want)) [
  | inl fits ↦ (eqb-true (length row) want fits, none_ragged want (nth + 1) rows (rw fits at e))
  | inr other ↦ cc (rw other at e)
]

-- parts of records of one length have one length
module _ (shape : Shape) (a b : Row) (same : length a ≡ length b) where
  pub dynamic_length : length (dynamic_part shape a) ≡ length (dynamic_part shape b)
  dynamic_length =
      let s = unwrap_or shape.spot (length shape.constants) in
      rw (length-take (dynamic_count shape a) (behind_spot shape a), length-take (dynamic_count shape b) (behind_spot shape b), length-drop s a, length-drop s b, same) refl

  pub constant_length : length (constant_part shape a) ≡ length (constant_part shape b)
  constant_length =
      let s = unwrap_or shape.spot (length shape.constants) in
      rw (
        length-append (before_spot shape a) (drop (dynamic_count shape a) (behind_spot shape a)),
        length-append (before_spot shape b) (drop (dynamic_count shape b) (behind_spot shape b)),
        length-take s a,
        length-take s b,
        length-drop (dynamic_count shape a) (behind_spot shape a),
        length-drop (dynamic_count shape b) (behind_spot shape b),
        length-drop s a,
        length-drop s b,
        same,
      ) refl

pub cells_fit : (shape : Shape) (header : Row) (rows : List Row) → AllByRecursion (λ (row : Row). length row ≡ length header) rows
    → AllByRecursion (λ (row : Row). length (dynamic_part shape row) ≡ length (dynamic_part shape header)) rows
cells_fit shape header [] h = tt
cells_fit shape header (row ∷ rows) h = (dynamic_length shape row header h.0, cells_fit shape header rows h.1)

-- the keys of a table of the view have a text for each constant column
keys_have : (shape : Shape) (header : Row) (rows : List Row) → length (constant_part shape header) ≡ length shape.constants → AllByRecursion (λ (row : Row). length row ≡ length header) rows
    → AllByRecursion (λ (r : Row × Row). length r.0 ≡ length shape.constants) (map (key_and_cells shape) rows)
keys_have shape header [] e h = tt
keys_have shape header (row ∷ rows) e h = (constant_length shape row header h.0 ∙ e, keys_have shape header rows e h.1)

pub keys_fit : (shape : Shape) (header : Row) (rows : List Row) → AllByRecursion (λ (row : Row). length row ≡ length header) rows → are_of_view shape header rows ≡ true → KeysFit shape (table_under shape header rows)
keys_fit shape header rows h of_view =
    let header_is = and_parts (is_header shape header) (ascends row_cmp (map (constant_part shape) rows)) of_view in
    let constants = and_parts _ (are_columns shape (dynamic_part shape header)) header_is.0 in
    keys_have shape header rows (ap length (equal_is row_order (constant_part shape header) shape.constants constants.0)) h

-- the next record behind a header, and the end
ragged_one : (want nth : ℕ) (row : Row) (rows : List Row) (b : Bool) → (length row == want) ≡ b → ragged want nth (row ∷ rows) ≡ cond b (ragged want (nth + 1) rows) (Some (nth, length row))
unfolding ragged
ragged_one want nth row rows b e = rw e refl

module _ (want nth i : ℕ) (rows : List Row) (left : ragged want nth (drop i rows) ≡ ragged want 2 rows) where
  next_is : (row : Row) → i < length rows → row ≡ get_or rows i row → drop i rows ≡ row ∷ drop (i + 1) rows
  next_is row lt is = next_left rows i row lt is

  pub ragged_here : (row : Row) → i < length rows → row ≡ get_or rows i row → (length row ≡ want → ⊥) → ragged want 2 rows ≡ Some (nth, length row)
  ragged_here row lt is other =
      sym left ∙ ap (ragged want nth) (next_is row lt is) ∙ ragged_one want nth row (drop (i + 1) rows) false (differs (length row == want) refl)
    where
      differs : (b : Bool) → (length row == want) ≡ b → (length row == want) ≡ false
      differs true e = absurd (other (eqb-true (length row) want e))
      differs false e = e

  pub ragged_more : (row : Row) → i < length rows → row ≡ get_or rows i row → length row ≡ want → ragged want (nth + 1) (drop (i + 1) rows) ≡ ragged want 2 rows
  ragged_more row lt is same = sym (ap (ragged want nth) (next_is row lt is) ∙ ragged_one want nth row (drop (i + 1) rows) true (eq-eqb (length row) want same)) ∙ left

  pub ragged_end : length rows ≤ i → ragged want 2 rows ≡ None
  unfolding ragged
  ragged_end past = sym left ∙ ap (ragged want nth) (drop_all i rows past)

-- a key behind the keys of a table
module _ {A : Type 0} {R : A → A → Ordering} (o : IsTotalOrder R) where
  pub one_ascends : (x : A) → IsStrictlySortedBy R ([] ++ x ∷ [])
  unfolding IsStrictlySortedBy
  one_ascends x = (tt, tt)

  -- the last of an ascending list decides
  all_below : (x y z : A) → R x y ≡ Less → R y z ≡ Less → R x z ≡ Less
  all_below x y z h i = o.trans x y z h i

  pub behind_last : (xs : List A) (last x : A) (i : ℕ) → length xs ≡ i + 1 → last ≡ get_or xs i last → IsStrictlySortedBy R xs → R last x ≡ Less → IsStrictlySortedBy R (xs ++ x ∷ [])
  unfolding IsStrictlySortedBy
  behind_last [] last x i n is h lt = absurd (omega (arith, n))
  behind_last (y ∷ []) last x i n is h lt = ((is_first, tt), (tt, tt))
    where
      is_first : R y x ≡ Less
      is_first = let zero_is : i ≡ 0 = omega (arith, n) in subst (λ z. R z x ≡ Less) (is ∙ ap (λ k. get_or (y ∷ []) k last) zero_is) lt
  behind_last (y ∷ z ∷ ys) last x i n is h lt = (both (z ∷ ys) h.0, behind_last (z ∷ ys) last x (i - 1) (omega (arith, n)) (is ∙ ap (λ k. get_or (y ∷ z ∷ ys) k last) next) h.1 lt)
    where
      next : i ≡ suc (i - 1)
      next = omega (arith, n)

      last_below : (ws : List A) (k : ℕ) → k < length ws → AllByRecursion (λ w. R y w ≡ Less) ws → last ≡ get_or ws k last → R y last ≡ Less
      last_below [] k below each e = absurd (omega (arith, below))
      last_below (w ∷ ws) zero below each e = subst (λ v. R y v ≡ Less) (sym e) each.0
      last_below (w ∷ ws) (suc k) below each e = last_below ws k (omega (arith, below)) each.1 e

      below_x : R y x ≡ Less
      below_x = o.trans y last x (last_below (z ∷ ys) (i - 1) (omega (arith, n)) h.0 (is ∙ ap (λ k. get_or (y ∷ z ∷ ys) k last) next)) lt

      both : (ws : List A) → AllByRecursion (λ w. R y w ≡ Less) ws → AllByRecursion (λ w. R y w ≡ Less) (ws ++ x ∷ [])
      both [] each = (below_x, tt)
      both (w ∷ ws) each = (each.0, both ws each.1)

  pub last_behind : (xs : List A) (last x : A) (i : ℕ) → length xs ≡ i + 1 → last ≡ get_or xs i last → IsStrictlySortedBy R (xs ++ x ∷ []) → R last x ≡ Less
  unfolding IsStrictlySortedBy
  last_behind [] last x i n is h = absurd (omega (arith, n))
  last_behind (y ∷ []) last x i n is h = let zero_is : i ≡ 0 = omega (arith, n) in subst (λ z. R z x ≡ Less) (sym (is ∙ ap (λ k. get_or (y ∷ []) k last) zero_is)) h.0.0
  last_behind (y ∷ z ∷ ys) last x i n is h = let next : i ≡ suc (i - 1) = omega (arith, n) in last_behind (z ∷ ys) last x (i - 1) (omega (arith, n)) (is ∙ ap (λ k. get_or (y ∷ z ∷ ys) k last) next) h.1

-- the key of the row at a place is that at the place among the keys
pub key_at : (t : TableValue) (i : ℕ) (key : Row) → i < length t.rows → key ≡ (row_at i t).0 → key ≡ get_or (row_keys t) i key
key_at t i key lt is = is ∙ at_rows t.rows i lt
  where
    at_rows : (rs : List (Row × Row)) (i : ℕ) → i < length rs → (get_or rs i ([], [])).0 ≡ get_or (map (λ (r : Row × Row). r.0) rs) i key
    at_rows [] i lt = absurd (omega (arith, lt))
    at_rows (r ∷ rs) zero lt = refl
    at_rows (r ∷ rs) (suc i) lt = at_rows rs i (omega (arith, lt))

pub no_keys : (t : TableValue) → length t.rows ≡ 0 → row_keys t ≡ []
no_keys t e = none t.rows e
  where
    none : (rs : List (Row × Row)) → length rs ≡ 0 → map (λ (r : Row × Row). r.0) rs ≡ []
    none [] e = refl
    none (r ∷ rs) e = absurd (omega (arith, e))

-- one key of rows more does not ascend
pub not_whole : (shape : Shape) (rows : List Row) (front : List Row) (key : Row) (back : List Row) → map (constant_part shape) rows ≡ (front ++ key ∷ []) ++ back → (IsStrictlySortedBy row_cmp (front ++ key ∷ []) → ⊥) → ascends row_cmp (map (constant_part shape) rows) ≡ false
not_whole shape rows front key back e never = ap (ascends row_cmp) e ∙ not_strict row_cmp ((front ++ key ∷ []) ++ back) (λ s. never (strict_front row_cmp (front ++ key ∷ []) back s))

module _ (shape : Shape) (rows : List Row) (i : ℕ) where
  keys_of_front : (rs : List Row) → map (λ (r : Row × Row). r.0) (map (key_and_cells shape) rs) ≡ map (constant_part shape) rs
  keys_of_front [] = refl
  keys_of_front (r ∷ rs) = ap (λ (ks : List Row). constant_part shape r ∷ ks) (keys_of_front rs)

  pub front_keys : (t : TableValue) (columns : Row) → t ≡ table_value columns (map (key_and_cells shape) (take i rows)) → row_keys t ≡ map (constant_part shape) (take i rows)
  front_keys t columns is = ap row_keys is ∙ keys_of_front (take i rows)

  -- the keys in three parts: before a row, its own, and behind it
  pub keys_split : (row : Row) → i < length rows → row ≡ get_or rows i row → map (constant_part shape) rows ≡ (map (constant_part shape) (take i rows) ++ constant_part shape row ∷ []) ++ map (constant_part shape) (drop (i + 1) rows)
  keys_split row lt is =
      ap (map (constant_part shape)) (sym (take-append-drop i rows) ∙ ap (λ (rs : List Row). take i rows ++ rs) (next_left rows i row lt is))
      ∙ map-append (constant_part shape) (take i rows) (row ∷ drop (i + 1) rows)
      ∙ sym (append_assoc (map (constant_part shape) (take i rows)) (constant_part shape row ∷ []) (map (constant_part shape) (drop (i + 1) rows)))
