-- What the table of facts has: its keys, its columns and its cells.
use Rattle.std.proofs.Common.{◌≡◌, ◌∷◌, [], Bool, true, false, cond, List, Option, Some, None, refl, sym, ◌∙◌, ap, map}
use Rattle.std.specs.Prelude.{◌||◌, unwrap_or}
use Rattle.std.specs.List.{list_any, filter_map, zip}
use Rattle.std.specs.Map.{lookup, keys_of}
use Rattle.std.proofs.lemmas.Bool.{false≢true}
use Rattle.ss_text.specs.Texts.{Text, Row, text_eq, row_eq, text_cmp, is_in}
use Rattle.ss_text.specs.Ascending.{least}
use Rattle.ss_text.proofs.KeyLemmas.{IsKeyOrder, text_order, row_order, equal_is}
use Rattle.ss_text.proofs.PairLemmas.{any_ascending}
use Rattle.std.specs.declared.cmp.Ordering.{Ordering}
use Rattle.flow_law.specs.Facts.{Fact, column_of, values_at}
use Rattle.flow_law.specs.Tables.{cell_in, cell_of, row_keys}
use Rattle.flow_law.specs.FactTables.{value_for, fact_table}
use Rattle.flow_law.proofs.CellLemmas.{cell_of_none}
use Rattle.unfold_op.specs.Touched.{bears_column, has_key, has_column, keys_named, columns_named}

-- the keys
pub keys_mapped : (f : Row → Row) (ks : List Row) → keys_of (map (λ k. let row : Row × Row = (k, f k) in row) ks) ≡ ks
keys_mapped f [] = refl
keys_mapped f (k ∷ ks) = ap (λ rest. k ∷ rest) (keys_mapped f ks)

pub row_keys_are : (fs : List Fact) → row_keys (fact_table fs) ≡ keys_named fs
row_keys_are fs = keys_mapped (λ key. map (value_for fs key) (columns_named fs)) (keys_named fs)

any_key : (q : Row) (fs : List Fact) → list_any (row_eq q) (map (λ (f : Fact). f.key) fs) ≡ has_key fs q
any_key q [] = refl
any_key q (f ∷ fs) = ap (λ b. row_eq q f.key || b) (any_key q fs)

pub key_named : (q : Row) (fs : List Fact) → list_any (row_eq q) (keys_named fs) ≡ has_key fs q
key_named q fs = any_ascending row_order q (map (λ (f : Fact). f.key) fs) ∙ any_key q fs

-- the columns
any_column : (q : Text) (fs : List Fact) → is_in q (filter_map column_of fs) ≡ has_column fs q
any_column q [] = refl
any_column q (f ∷ fs) = by_cell f.cell refl (any_column q fs)
  where
    by_cell : (c : Option (Text × Text)) → f.cell ≡ c → is_in q (filter_map column_of fs) ≡ has_column fs q → is_in q (filter_map column_of (f ∷ fs)) ≡ has_column (f ∷ fs) q
    by_cell None e rest = rw e rest
    by_cell (Some c) e rest = rw e (ap (λ b. text_eq q c.0 || b) rest)

pub column_named : (q : Text) (fs : List Fact) → is_in q (columns_named fs) ≡ has_column fs q
column_named q fs = any_ascending text_order q (filter_map column_of fs) ∙ any_column q fs

-- the cells
lookup_made : {X : Type 0} {K : Type 0} {R : K → K → Ordering} {E : K → K → Bool} (o : IsKeyOrder R E) (f : K → X) (ks : List K) (q : K) → lookup (E q) (map (λ k. let e : K × X = (k, f k) in e) ks) ≡ cond (list_any (E q) ks) (Some (f q)) None
lookup_made o f [] q = refl
lookup_made {X = X} {K = K} {E = E} o f (k ∷ ks) q = by_test (E q k) refl (lookup_made o f ks q)
  where
    by_test : (b : Bool) → E q k ≡ b → lookup (E q) (map (λ k. let e : K × X = (k, f k) in e) ks) ≡ cond (list_any (E q) ks) (Some (f q)) None
        → lookup (E q) (map (λ k. let e : K × X = (k, f k) in e) (k ∷ ks)) ≡ cond (list_any (E q) (k ∷ ks)) (Some (f q)) None
    by_test true e rest = rw e (ap (λ (j : K). Some (f j)) (sym (equal_is o q k e)))
    by_test false e rest = rw e rest

zip_made : (f : Text → Text) (cs : Row) → zip cs (map f cs) ≡ map (λ c. let e : Text × Text = (c, f c) in e) cs
zip_made f [] = refl
zip_made f (c ∷ cs) = ap (λ rest. (c, f c) ∷ rest) (zip_made f cs)

-- no value where no fact has the key, or the column
no_key : (fs : List Fact) (q : Row) (c : Text) → has_key fs q ≡ false → values_at fs q c ≡ []
no_key [] q c h = refl
no_key (f ∷ fs) q c h = by_test (row_eq q f.key) refl (λ e. no_key fs q c (rw e at h))
  where
    by_test : (b : Bool) → row_eq q f.key ≡ b → (row_eq q f.key ≡ false → values_at fs q c ≡ []) → values_at (f ∷ fs) q c ≡ []
    by_test true e rest = absurd (false≢true (sym (rw e at h)))
    by_test false e rest = rw e (rest e)

no_column : (fs : List Fact) (q : Row) (c : Text) → has_column fs c ≡ false → values_at fs q c ≡ []
no_column [] q c h = refl
no_column (f ∷ fs) q c h = by_test (row_eq q f.key) refl f.cell refl (λ e. no_column fs q c (rw e at h))
  where
    by_test : (b : Bool) → row_eq q f.key ≡ b → (d : Option (Text × Text)) → f.cell ≡ d → (bears_column c f ≡ false → values_at fs q c ≡ []) → values_at (f ∷ fs) q c ≡ []
    by_test true e None is rest = rw (e, is) (rest (rw is refl))
    by_test true e (Some d) is rest = by_column (text_eq c d.0) refl
      where
        by_column : (b : Bool) → text_eq c d.0 ≡ b → values_at (f ∷ fs) q c ≡ []
        by_column true t = absurd (false≢true (sym (rw (is, t) at h)))
        by_column false t = rw (e, is, t) (rest (rw (is, t) refl))
    by_test false e d is rest = by_column (bears_column c f) refl
      where
        by_column : (b : Bool) → bears_column c f ≡ b → values_at (f ∷ fs) q c ≡ []
        by_column true t = absurd (false≢true (sym (rw t at h)))
        by_column false t = rw e (rest t)

pub value_no_key : (fs : List Fact) (q : Row) (c : Text) → has_key fs q ≡ false → value_for fs q c ≡ []
value_no_key fs q c h = ap (λ vs. unwrap_or (least text_cmp vs) []) (no_key fs q c h)

pub value_no_column : (fs : List Fact) (q : Row) (c : Text) → has_column fs c ≡ false → value_for fs q c ≡ []
value_no_column fs q c h = ap (λ vs. unwrap_or (least text_cmp vs) []) (no_column fs q c h)

pub cell_of_facts : (fs : List Fact) (q : Row) (c : Text) → cell_of (fact_table fs) q c ≡ value_for fs q c
cell_of_facts fs q c = ap (λ (o : Option Row). cell_in (columns_named fs) (unwrap_or o []) c) (lookup_made row_order (λ key. map (value_for fs key) (columns_named fs)) (keys_named fs) q) ∙ by_key (list_any (row_eq q) (keys_named fs)) refl
  where
    by_column : (b : Bool) → is_in c (columns_named fs) ≡ b → unwrap_or (cond b (Some (value_for fs q c)) None) [] ≡ value_for fs q c
    by_column true e = refl
    by_column false e = sym (value_no_column fs q c (sym (column_named c fs) ∙ e))

    by_key : (b : Bool) → list_any (row_eq q) (keys_named fs) ≡ b → cell_in (columns_named fs) (unwrap_or (cond b (Some (map (value_for fs q) (columns_named fs))) None) []) c ≡ value_for fs q c
    by_key true e =
        ap (λ (es : List (Text × Text)). unwrap_or (lookup (text_eq c) es) []) (zip_made (value_for fs q) (columns_named fs))
        ∙ ap (λ (o : Option Text). unwrap_or o []) (lookup_made text_order (value_for fs q) (columns_named fs) c) ∙ by_column (is_in c (columns_named fs)) refl
    by_key false e = cell_of_none (columns_named fs) c ∙ sym (value_no_key fs q c (sym (key_named q fs) ∙ e))
