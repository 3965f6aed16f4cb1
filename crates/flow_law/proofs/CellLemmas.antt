-- The cells of a row, as their columns find them.
use Rattle.std.proofs.Common.{◌≡◌, ◌≤◌, ◌∷◌, [], ℕ, Bool, true, false, cond, Option, Some, None, refl, sym, ◌∙◌, ap, subst, zero, suc, length, map, arith, replicate, slice_set, slice_index_or, ◌<◌}
use Rattle.std.specs.Prelude.{◌||◌, insert, remove, unwrap_or}
use Rattle.std.specs.List.{zip}
use Rattle.std.specs.List.Sorted.{IsStrictlySortedBy}
use Rattle.std.specs.Map.{lookup}
use Rattle.std.proofs.lemmas.Bool.{false≢true}
use Rattle.ss_text.specs.Texts.{Text, Row, text_eq, text_cmp, row_cmp, is_in}
use Rattle.ss_text.specs.Keys.{IsPlaceOf, IsPlaceFor}
use Rattle.ss_text.proofs.KeyLemmas.{text_order, row_order, lookup_at, lookup_lacks, equal_itself, equal_is, Lacks, lacks_after, lacks_for, earlier_differs, at_tail}
use Rattle.std.proofs.lemmas.List.{get_or_default}
use Rattle.ss_text.proofs.PairLemmas.{turned}
use Rattle.flow_law.specs.Tables.{TableValue, key_of, row_at, cell_in, cells_of, cell_of}
use Rattle.flow_law.specs.InOrder.{IsTable}
use Rattle.flow_law.proofs.TableLemmas.{own_keys}

abbrev pub Missing : Text → Row → Type 0
Missing c columns = Lacks text_order (λ (x : Text). x) c columns

-- what is not in a list is missing in it
pub missing : (columns : Row) (c : Text) → is_in c columns ≡ false → Missing c columns
missing [] c h = tt
missing (x ∷ xs) c h = split (text_eq c x) refl (λ e. missing xs c (rw e at h))
  where
    split : (b : Bool) → text_eq c x ≡ b → (text_eq c x ≡ false → Missing c xs) → Missing c (x ∷ xs)
    split true e rest = absurd (false≢true (sym h ∙ ap (λ b. b || is_in c xs) e))
    split false e rest = (e, rest e)

abbrev pub found_in : Row → Row → Text → Option Text
found_in columns cells c = lookup (text_eq c) (zip columns cells)

pub found_none : (columns cells : Row) (c : Text) → Missing c columns → found_in columns cells c ≡ None
found_none [] cells c h = refl
found_none (x ∷ xs) [] c h = refl
found_none (x ∷ xs) (v ∷ vs) c h = rw h.0 (found_none xs vs c h.1)

found_no_cells : (columns : Row) (c : Text) → found_in columns [] c ≡ None
found_no_cells [] c = refl
found_no_cells (x ∷ xs) c = refl

pub cell_of_none : (columns : Row) (c : Text) → cell_in columns [] c ≡ []
cell_of_none columns c = ap (λ (o : Option Text). unwrap_or o []) (found_no_cells columns c)

pub cell_of_empty : (n : ℕ) (columns : Row) (c : Text) → cell_in columns (replicate n []) c ≡ []
cell_of_empty zero columns c = cell_of_none columns c
cell_of_empty (suc n) [] c = refl
cell_of_empty (suc n) (x ∷ xs) c = split (text_eq c x) refl (cell_of_empty n xs c)
  where
    split : (b : Bool) → text_eq c x ≡ b → cell_in xs (replicate n []) c ≡ [] → cell_in (x ∷ xs) (replicate (suc n) []) c ≡ []
    split true e rest = rw e refl
    split false e rest = rw e rest

-- another column is taken out
found_kept : (columns cells : Row) (k : ℕ) (column c : Text) → length cells ≡ length columns → IsPlaceOf (λ (x : Text). x) column columns k → text_eq c column ≡ false
    → found_in (remove columns k) (remove cells k) c ≡ found_in columns cells c
found_kept [] cells k column c n at h = absurd (omega (arith, at.within))
found_kept (x ∷ xs) [] k column c n at h = absurd (omega arith)
found_kept (x ∷ xs) (v ∷ vs) zero column c n at h =
    let e : text_eq c x ≡ false = subst (λ (t : Text). text_eq c t ≡ false) (sym (at.has_key x)) h in
    rw e refl
found_kept (x ∷ xs) (v ∷ vs) (suc k) column c n at h =
    ap (cond (text_eq c x) (Some v)) (found_kept xs vs k column c (omega arith) (at_tail text_order (λ (t : Text). t) column x xs k at) h)

pub cell_kept : (columns cells : Row) (k : ℕ) (column c : Text) → length cells ≡ length columns → IsPlaceOf (λ (x : Text). x) column columns k → text_eq c column ≡ false
    → cell_in (remove columns k) (remove cells k) c ≡ cell_in columns cells c
cell_kept columns cells k column c n at h = ap (λ (o : Option Text). unwrap_or o []) (found_kept columns cells k column c n at h)

-- a new column is put in, its cell empty
pub cell_with_column : (columns cells : Row) (k : ℕ) (column c : Text) → length cells ≡ length columns → k ≤ length columns → Missing column columns
    → cell_in (insert columns k column) (insert cells k []) c ≡ cell_in columns cells c
cell_with_column columns cells zero column c n le h = split (text_eq c column) refl
  where
    split : (b : Bool) → text_eq c column ≡ b → unwrap_or (cond (text_eq c column) (Some []) (found_in columns cells c)) [] ≡ cell_in columns cells c
    split true e =
        let there : Missing c columns = subst (λ (t : Text). Missing t columns) (sym (equal_is text_order c column e)) h in
        rw (e, found_none columns cells c there) refl
    split false e = rw e refl
cell_with_column [] cells (suc k) column c n le h = absurd (omega arith)
cell_with_column (x ∷ xs) [] (suc k) column c n le h = absurd (omega arith)
cell_with_column (x ∷ xs) (v ∷ vs) (suc k) column c n le h = split (text_eq c x) refl (cell_with_column xs vs k column c (omega arith) (omega arith) h.1)
  where
    split : (b : Bool) → text_eq c x ≡ b → cell_in (insert xs k column) (insert vs k []) c ≡ cell_in xs vs c → cell_in (x ∷ insert xs k column) (v ∷ insert vs k []) c ≡ cell_in (x ∷ xs) (v ∷ vs) c
    split true e rest = rw e refl
    split false e rest = rw e rest

-- a cell gets a value
pub cell_written : (columns cells : Row) (k : ℕ) (column value c : Text) → IsStrictlySortedBy text_cmp (map (λ (x : Text). x) columns) → length cells ≡ length columns → IsPlaceOf (λ (x : Text). x) column columns k
    → cell_in columns (slice_set cells k value) c ≡ cond (text_eq c column) value (cell_in columns cells c)
unfolding IsStrictlySortedBy
cell_written [] cells k column value c s n at = absurd (omega (arith, at.within))
cell_written (x ∷ xs) [] k column value c s n at = absurd (omega arith)
cell_written (x ∷ xs) (v ∷ vs) zero column value c s n at = split (text_eq c x) refl
  where
    same : text_eq c column ≡ text_eq c x
    same = ap (text_eq c) (sym (at.has_key x))

    split : (b : Bool) → text_eq c x ≡ b → cell_in (x ∷ xs) (value ∷ vs) c ≡ cond (text_eq c column) value (cell_in (x ∷ xs) (v ∷ vs) c)
    split true e = rw (same, e) refl
    split false e = rw (same, e) refl
cell_written (x ∷ xs) (v ∷ vs) (suc k) column value c s n at =
    split (text_eq c x) refl (cell_written xs vs k column value c s.1 (omega arith) (at_tail text_order (λ (t : Text). t) column x xs k at))
  where
    other : text_eq column x ≡ false
    other = earlier_differs text_order (λ (t : Text). t) column x xs k s.0 (at_tail text_order (λ (t : Text). t) column x xs k at)

    split : (b : Bool) → text_eq c x ≡ b → cell_in xs (slice_set vs k value) c ≡ cond (text_eq c column) value (cell_in xs vs c)
        → cell_in (x ∷ xs) (v ∷ slice_set vs k value) c ≡ cond (text_eq c column) value (cell_in (x ∷ xs) (v ∷ vs) c)
    split true e rest =
        let apart : text_eq c column ≡ false = turned text_order c column ∙ subst (λ (t : Text). text_eq column t ≡ false) (sym (equal_is text_order c x e)) other in
        rw (e, apart) refl
    split false e rest = rw e rest

-- cells that each column finds alike are the same
pub same_cells : (columns cells others : Row) → IsStrictlySortedBy text_cmp (map (λ (x : Text). x) columns) → length cells ≡ length columns → length others ≡ length columns
    → ((c : Text) → is_in c columns ≡ true → cell_in columns cells c ≡ cell_in columns others c) → cells ≡ others
unfolding IsStrictlySortedBy
same_cells [] [] [] s n m h = refl
same_cells [] [] (w ∷ ws) s n m h = absurd (omega arith)
same_cells [] (v ∷ vs) others s n m h = absurd (omega arith)
same_cells (x ∷ xs) [] others s n m h = absurd (omega arith)
same_cells (x ∷ xs) (v ∷ vs) [] s n m h = absurd (omega arith)
same_cells (x ∷ xs) (v ∷ vs) (w ∷ ws) s n m h = cc (here, same_cells xs vs ws s.1 (omega arith) (omega arith) rest)
  where
    itself : text_eq x x ≡ true
    itself = equal_itself text_order x

    here : v ≡ w
    here = rw itself at (h x (ap (λ b. b || is_in x xs) itself))

    rest : (c : Text) → is_in c xs ≡ true → cell_in xs vs c ≡ cell_in xs ws c
    rest c there = split (text_eq c x) refl
      where
        all : (a : Bool) → (a || true) ≡ true
        all true = refl
        all false = refl

        split : (b : Bool) → text_eq c x ≡ b → cell_in xs vs c ≡ cell_in xs ws c
        split true e =
            let gone : Missing c xs = lacks_after text_order (λ (t : Text). t) c x xs (sym (equal_is text_order c x e)) s.0 in
            ap (λ (o : Option Text). unwrap_or o []) (found_none xs vs c gone ∙ sym (found_none xs ws c gone))
        split false e = rw e at (h c (ap (λ b. text_eq c x || b) there ∙ all (text_eq c x)))

-- the cell of a column at its place
pub cell_at_place : (columns cells : Row) (k : ℕ) (column : Text) → IsStrictlySortedBy text_cmp (map (λ (x : Text). x) columns) → IsPlaceOf (λ (x : Text). x) column columns k
    → cell_in columns cells column ≡ slice_index_or cells k []
unfolding IsStrictlySortedBy
cell_at_place [] cells k column s at = absurd (omega (arith, at.within))
cell_at_place (x ∷ xs) [] k column s at = refl
cell_at_place (x ∷ xs) (v ∷ vs) zero column s at =
    let same : x ≡ column = at.has_key x in
    rw (same, equal_itself text_order column) refl
cell_at_place (x ∷ xs) (v ∷ vs) (suc k) column s at =
    let later = at_tail text_order (λ (t : Text). t) column x xs k at in
    rw (earlier_differs text_order (λ (t : Text). t) column x xs k s.0 later) (cell_at_place xs vs k column s.1 later)

-- of a column that is missing
pub cell_missing : (columns cells : Row) (k : ℕ) (column : Text) → IsPlaceFor text_cmp (λ (x : Text). x) column columns k → cell_in columns cells column ≡ []
cell_missing columns cells k column gap = ap (λ (o : Option Text). unwrap_or o []) (found_none columns cells column (lacks_for text_order (λ (x : Text). x) column columns k gap))

-- the cells of a key at its place, and of one that is missing
pub cells_found : (t : TableValue) (key : Row) (i : ℕ) → IsTable t → IsPlaceOf key_of key t.rows i → cells_of t key ≡ (row_at i t).1
cells_found t key i h at = ap (λ (o : Option Row). unwrap_or o []) (lookup_at row_order key t.rows i ([], []) h.keys at)

pub cells_missing : (t : TableValue) (key : Row) (i : ℕ) → IsPlaceFor row_cmp key_of key t.rows i → cells_of t key ≡ []
cells_missing t key i gap = ap (λ (o : Option Row). unwrap_or o []) (lookup_lacks row_order key t.rows (lacks_for row_order key_of key t.rows i gap))

-- a cell that a row and a column of a table have at their places
pub own_cell : (t : TableValue) (i k : ℕ) → IsTable t → i < length t.rows → k < length t.columns → cell_of t (row_at i t).0 (slice_index_or t.columns k []) ≡ slice_index_or (row_at i t).1 k []
own_cell t i k h row column =
    ap (λ (cells : Row). cell_in t.columns cells (slice_index_or t.columns k [])) (cells_found t (row_at i t).0 i h (record { within = row; has_key = λ d. ap key_of (get_or_default t.rows i d ([], []) row) }))
    ∙ cell_at_place t.columns (row_at i t).1 k (slice_index_or t.columns k []) (own_keys t.columns h.columns) (record { within = column; has_key = λ d. get_or_default t.columns k d [] column })
