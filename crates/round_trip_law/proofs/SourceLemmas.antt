-- What the three sources say of a catalogue: an entry for each row, or for each name and row.
use Rattle.std.proofs.Common.{◌≡◌, ◌∙◌, ◌+◌, ℕ, zero, suc, Bool, true, false, cond, ◌&&◌, ◌||◌, List, [], ◌∷◌, ◌++◌, Option, Some, None, map, length, refl, sym, ap, subst, append-nil, arith}
use Rattle.std.specs.Prelude.{not, filter, slice_get, option_and_then, option_to_list, flat_map, find, is_some}
use Rattle.std.specs.List.{range_with_len, list_all, AllByRecursion}
use Rattle.std.specs.List.Sorted.{IsStrictlySortedBy}
use Rattle.std.specs.declared.cmp.Ordering.TheVariants.{Less}
use Rattle.std.proofs.lemmas.List.Concat.{flat_map_single}
use Rattle.std.proofs.lemmas.List.Folds.{list_all-append, flat_map-map}
use Rattle.ss_text.specs.Texts.{Text, Row, text_eq, text_cmp, is_in}
use Rattle.ss_text.proofs.GroupLemmas.{all_weaker}
use Rattle.ss_text.proofs.KeyLemmas.{text_order, equal_itself, less_differs}
use Rattle.schema_model.specs.Catalogue.{RelationValue, DatabaseValue, CatalogueValue, database_of, relation_in, relation_of, relation_names}
use Rattle.view_def.specs.declared.typed.Place.TheVariants as place
use Rattle.view_def.specs.declared.typed.Range.{Range}
use Rattle.view_def.specs.declared.typed.Range.TheVariants as range
use Rattle.view_def.specs.declared.typed.Term.TheVariants as term
use Rattle.view_def.specs.Terms.{terms_of_each}
use Rattle.view_meaning.specs.Elements.{Element, A_text, A_row, Valuation, text_of, cell_under, cell_of_element, cell_at, database_at, relation_at, ◌>>=◌, all_rows, elements}
use Rattle.view_meaning.specs.Orders.{text_under, row_under}
use Rattle.view_meaning.specs.Terms.{Reading, value_of, are_defined, each_is_true}
use Rattle.view_meaning.specs.Valuations.{assignments}
use Rattle.view_stack.proofs.SaysLemmas.{and_first, and_second, or_right}
use Rattle.round_trip_law.specs.Forms.{Named, Parts, cell, no_key_nor_empty, from_values, from_columns, from_tables}
use Rattle.round_trip_law.specs.Kept.{says}
use Rattle.round_trip_law.proofs.CellLemmas.{cell_there, cells_there}
use Rattle.round_trip_law.proofs.Entries.{Entry, AreNamed, Reads, passes, said, entry_at, entry_read, two_declared}
use Rattle.view_stack.proofs.ScriptLemmas.{all_of}
use Rattle.round_trip_law.proofs.Members.{all_flat}

-- ---- each valuation of the three has a name, whatever the catalogue
abbrev IsText : Element → Type 0
IsText x = is_some (text_of x) ≡ true

texts : (ts : Row) → AllByRecursion IsText (map A_text ts)
texts [] = tt
texts (t ∷ ts) = (refl, texts ts)

module _ (c : CatalogueValue) (d1 d2 : Range) where
  first_named : AllByRecursion IsText (elements c [] d1) → AllByRecursion (λ v. is_some (value_of v (term.Var 0)) ≡ true) (assignments c [] (d1 ∷ d2 ∷ []))
  first_named h =
      all_flat (λ v. is_some (value_of v (term.Var 0)) ≡ true) (λ x. flat_map (λ y. (x ∷ y ∷ []) ∷ []) (elements c (x ∷ []) d2)) (elements c [] d1)
      (all_weaker IsText (λ x. AllByRecursion (λ v. is_some (value_of v (term.Var 0)) ≡ true) (flat_map (λ y. (x ∷ y ∷ []) ∷ []) (elements c (x ∷ []) d2)))
      (λ x is. all_flat (λ v. is_some (value_of v (term.Var 0)) ≡ true) (λ y. (x ∷ y ∷ []) ∷ []) (elements c (x ∷ []) d2) (all_of (λ y. AllByRecursion (λ v. is_some (value_of v (term.Var 0)) ≡ true) ((x ∷ y ∷ []) ∷ [])) (elements c (x ∷ []) d2) (λ y. (is, tt))))
      (elements c [] d1) h)

  second_named : ((x : Element) → AllByRecursion IsText (elements c (x ∷ []) d2)) → AllByRecursion (λ v. is_some (value_of v (term.Var 1)) ≡ true) (assignments c [] (d1 ∷ d2 ∷ []))
  second_named h =
      all_flat (λ v. is_some (value_of v (term.Var 1)) ≡ true) (λ x. flat_map (λ y. (x ∷ y ∷ []) ∷ []) (elements c (x ∷ []) d2)) (elements c [] d1)
      (all_of (λ x. AllByRecursion (λ v. is_some (value_of v (term.Var 1)) ≡ true) (flat_map (λ y. (x ∷ y ∷ []) ∷ []) (elements c (x ∷ []) d2))) (elements c [] d1)
      (λ x. all_flat (λ v. is_some (value_of v (term.Var 1)) ≡ true) (λ y. (x ∷ y ∷ []) ∷ []) (elements c (x ∷ []) d2)
      (all_weaker IsText (λ y. AllByRecursion (λ v. is_some (value_of v (term.Var 1)) ≡ true) ((x ∷ y ∷ []) ∷ [])) (λ y is. (is, tt)) (elements c (x ∷ []) d2) (h x))))

pub values_named : (p : Parts) (at : Named) (c : CatalogueValue) → AreNamed c (from_values p at)
values_named p at c = second_named c (range.Tuples (place.Fixed at.db) (place.Fixed at.rel)) (range.Alias 0 (place.Fixed p.name)) (λ x. texts (option_to_list (cell_at (x ∷ []) 0 (place.Fixed p.name))))

pub columns_named : (p : Parts) (at : Named) (c : CatalogueValue) → AreNamed c (from_columns p at)
columns_named p at c = first_named c (range.Attributes (place.Fixed at.db) (place.Fixed at.rel)) (range.Tuples (place.Fixed at.db) (place.Fixed at.rel)) (bound (relation_at c [] (place.Fixed at.db) (place.Fixed at.rel)))
  where
    bound : (o : Option RelationValue) → AllByRecursion IsText (o >>= (λ (r : RelationValue). map A_text r.attributes))
    bound None = tt
    bound (Some r) = texts r.attributes

pub tables_named : (p : Parts) (db : Text) (c : CatalogueValue) → AreNamed c (from_tables p db)
tables_named p db c = first_named c (range.Relations (place.Fixed db)) (range.Tuples (place.Fixed db) (place.Var 0)) (bound (database_at c [] (place.Fixed db)))
  where
    names : (rs : List RelationValue) → AllByRecursion IsText (map (λ (r : RelationValue). A_text r.name) rs)
    names [] = tt
    names (r ∷ rs) = (refl, names rs)

    bound : (o : Option DatabaseValue) → AllByRecursion IsText (o >>= (λ (d : DatabaseValue). map (λ (r : RelationValue). A_text r.name) d.relations))
    bound None = tt
    bound (Some d) = names d.relations

-- ---- rows by their places
add_none : (n : ℕ) → n + 0 ≡ n
add_none n = omega arith

none_add : (n : ℕ) → 0 + n ≡ n
none_add n = omega arith

add_one : (n k : ℕ) → n + 1 + k ≡ n + suc k
add_one n k = omega arith

module _ {B : Type 0} (r : RelationValue) (f : Element → List B) (g : Row → List B) where
  listed : (xs : List Row) (n : ℕ) → ((k : ℕ) (row : Row) → slice_get xs k ≡ Some row → f (A_row r (n + k)) ≡ g row) → flat_map f (map (A_row r) (range_with_len n (length xs))) ≡ flat_map g xs
  listed [] n h = refl
  listed (x ∷ xs) n h =
      let first : f (A_row r n) ≡ g x = ap (λ k. f (A_row r k)) (sym (add_none n)) ∙ h 0 x refl in
      let rest = listed xs (n + 1) (λ k row e. ap (λ m. f (A_row r m)) (add_one n k) ∙ h (suc k) row e) in
      λ i. first i ++ rest i

  rows_listed : ((k : ℕ) (row : Row) → slice_get r.rows k ≡ Some row → f (A_row r k) ≡ g row) → flat_map f (all_rows r) ≡ flat_map g r.rows
  rows_listed h = listed r.rows 0 (λ k row e. ap (λ m. f (A_row r m)) (none_add k) ∙ h k row e)

get_all : {A : Type 0} (P : A → Type 0) (xs : List A) (k : ℕ) (x : A) → AllByRecursion P xs → slice_get xs k ≡ Some x → P x
get_all P [] k x h e = absurd (cc)
get_all P (y ∷ ys) zero x h e = let same : y ≡ x = cc in subst P same h.0
get_all P (y ∷ ys) (suc k) x h e = get_all P ys k x h.1 e

flat_agree : {A B : Type 0} (f g : A → List B) (xs : List A) → AllByRecursion (λ x. f x ≡ g x) xs → flat_map f xs ≡ flat_map g xs
flat_agree f g [] h = refl
flat_agree f g (x ∷ xs) h = λ i. h.0 i ++ flat_agree f g xs h.1 i

flat_kept : {A B : Type 0} (test : A → Bool) (f : A → B) (xs : List A) → flat_map (λ x. cond (test x) (f x ∷ []) []) xs ≡ map f (filter test xs)
flat_kept test f [] = refl
flat_kept test f (x ∷ xs) = by_test (test x) (flat_kept test f xs)
  where
    by_test : (b : Bool) → flat_map (λ x. cond (test x) (f x ∷ []) []) xs ≡ map f (filter test xs) → cond b (f x ∷ []) [] ++ flat_map (λ x. cond (test x) (f x ∷ []) []) xs ≡ map f (cond b (x ∷ filter test xs) (filter test xs))
    by_test true rest = ap (λ ys. f x ∷ ys) rest
    by_test false rest = rest

-- ---- cells of a row that stands in a valuation
module _ (v : Valuation) (j : ℕ) (r : RelationValue) (k : ℕ) (row : Row) (at : slice_get v j ≡ Some (A_row r k)) (here : slice_get r.rows k ≡ Some row) where
  cell_read : (name : Text) → value_of v (cell j name) ≡ cell_under r.attributes name row
  cell_read name = ap (option_and_then (λ e. cell_of_element e name)) at ∙ ap (option_and_then (cell_under r.attributes name)) here

  cells_read : (names : Row) → map (value_of v) (map (cell j) names) ≡ map (λ name. cell_under r.attributes name row) names
  cells_read [] = refl
  cells_read (name ∷ names) = λ i. cell_read name i ∷ cells_read names i

abbrev pub Fitting : Row → List Row → Type 0
Fitting attributes rows = AllByRecursion (λ (row : Row). length row ≡ length attributes) rows

-- ---- names as values
pub record Among (p : Parts) (attributes : Row) : Type 0 where
  pub keys : list_all (λ name. is_in name attributes) p.keys ≡ true
  pub name : is_in p.name attributes ≡ true
  pub value : is_in p.value attributes ≡ true

pub among : (p : Parts) (attributes : Row) → list_all (λ name. is_in name attributes) (p.keys ++ p.name ∷ p.value ∷ []) ≡ true → Among p attributes
among p attributes h =
    let all : (list_all (λ name. is_in name attributes) p.keys && (is_in p.name attributes && (is_in p.value attributes && true))) ≡ true = sym (list_all-append (λ name. is_in name attributes) p.keys (p.name ∷ p.value ∷ [])) ∙ h in
    let cells = and_second (list_all (λ name. is_in name attributes) p.keys) _ all in
    record { keys = and_first _ _ all; name = and_first (is_in p.name attributes) _ cells; value = and_first (is_in p.value attributes) true (and_second (is_in p.name attributes) _ cells) }

abbrev pub row_entry : Parts → Row → Row → Entry
row_entry p attributes row = record { key = row_under p.keys attributes row; name = text_under attributes row p.name; value = text_under attributes row p.value }

-- what a row says under an attribute that is no key
abbrev pub column_entry : Parts → Row → Text → Row → Entry
column_entry p attributes name row = record { key = row_under p.keys attributes row; name = name; value = text_under attributes row name }

abbrev pub column_entries : Parts → RelationValue → List Entry
column_entries p r = flat_map (λ name. map (column_entry p r.attributes name) (filter (says p r.attributes name) r.rows)) r.attributes

module _ (p : Parts) (at : Named) (c : CatalogueValue) (r : RelationValue) (there : relation_of c at.db at.rel ≡ Some r) (fits : Fitting r.attributes r.rows) where
  long : (k : ℕ) (row : Row) → slice_get r.rows k ≡ Some row → length row ≡ length r.attributes
  long k row here = get_all (λ (x : Row). length x ≡ length r.attributes) r.rows k row fits here

  module _ (parts : Among p r.attributes) where
    abbrev of_row : Element → List Entry
    of_row x = flat_map (λ y. entry_at (from_values p at) (x ∷ y ∷ [])) (elements c (x ∷ []) (range.Alias 0 (place.Fixed p.name)))

    module _ (k : ℕ) (row : Row) (here : slice_get r.rows k ≡ Some row) where
      abbrev own : Valuation
      own = A_row r k ∷ A_text (text_under r.attributes row p.name) ∷ []

      reads : Reads (from_values p at) own (row_entry p r.attributes row)
      reads = record {
        keys = cells_read own 0 r k row refl here p.keys ∙ cells_there r.attributes row p.keys (long k row here) parts.keys;
        name = refl;
        value = cell_read own 0 r k row refl here p.value ∙ cell_there r.attributes row p.value (long k row here) parts.value;
      }

      name_there : cell_at (A_row r k ∷ []) 0 (place.Fixed p.name) ≡ Some (text_under r.attributes row p.name)
      name_there = cell_read (A_row r k ∷ []) 0 r k row refl here p.name ∙ cell_there r.attributes row p.name (long k row here) parts.name

      row_said : of_row (A_row r k) ≡ row_entry p r.attributes row ∷ []
      row_said =
          ap (λ o. flat_map (λ y. entry_at (from_values p at) (A_row r k ∷ y ∷ [])) (map A_text (option_to_list o))) name_there
          ∙ append-nil (entry_at (from_values p at) own)
          ∙ entry_read (from_values p at) own (row_entry p r.attributes row) reads

    pub values_said : said c (from_values p at) ≡ map (row_entry p r.attributes) r.rows
    values_said =
        two_declared c (from_values p at) (range.Tuples (place.Fixed at.db) (place.Fixed at.rel)) (range.Alias 0 (place.Fixed p.name)) refl
        ∙ ap (λ o. flat_map of_row (o >>= all_rows)) there
        ∙ rows_listed r of_row (λ row. row_entry p r.attributes row ∷ []) row_said
        ∙ flat_map_single (row_entry p r.attributes) r.rows

  -- ---- names as columns
  module _ (reading : Reading) (name value : Text) (literal : (t : Text) → reading (term.Literal t) ≡ Some t) (named : reading (term.Var 0) ≡ Some name) (valued : reading (term.Cell 1 (place.Var 0)) ≡ Some value) where
    all_defined : (keys : Row) → are_defined reading (terms_of_each (no_key_nor_empty keys)) ≡ true
    all_defined [] = rw (valued, literal []) refl
    all_defined (key ∷ keys) = rw (named, literal key) (all_defined keys)

    negated : (a b d : Bool) → (not a && (not b && d)) ≡ (not (a || b) && d)
    negated true b d = refl
    negated false b d = refl

    all_true : (keys : Row) → each_is_true reading (no_key_nor_empty keys) ≡ (not (is_in name keys) && not (text_eq value []))
    all_true [] = rw (valued, literal []) (and_true (not (text_eq value [])))
      where
        and_true : (b : Bool) → (b && true) ≡ b
        and_true true = refl
        and_true false = refl
    all_true (key ∷ keys) = rw (named, literal key, all_true keys) (negated (text_eq name key) (is_in name keys) (not (text_eq value [])))

    passed : passes (from_columns p at) reading ≡ (not (is_in name p.keys) && not (text_eq value []))
    passed = rw (all_defined p.keys) (all_true p.keys)

  module _ (keys : list_all (λ name. is_in name r.attributes) p.keys ≡ true) where
    abbrev tuples : Range
    tuples = range.Tuples (place.Fixed at.db) (place.Fixed at.rel)

    abbrev of_name : Element → List Entry
    of_name x = flat_map (λ y. entry_at (from_columns p at) (x ∷ y ∷ [])) (elements c (x ∷ []) tuples)

    module _ (name : Text) (has : is_in name r.attributes ≡ true) where
      module _ (k : ℕ) (row : Row) (here : slice_get r.rows k ≡ Some row) where
        abbrev cells : Valuation
        cells = A_text name ∷ A_row r k ∷ []

        cell_reads : Reads (from_columns p at) cells (column_entry p r.attributes name row)
        cell_reads = record {
          keys = cells_read cells 1 r k row refl here p.keys ∙ cells_there r.attributes row p.keys (long k row here) keys;
          name = refl;
          value = cell_read cells 1 r k row refl here name ∙ cell_there r.attributes row name (long k row here) has;
        }

        cell_said : entry_at (from_columns p at) cells ≡ cond (says p r.attributes name row) (column_entry p r.attributes name row ∷ []) []
        cell_said =
            entry_read (from_columns p at) cells (column_entry p r.attributes name row) cell_reads
            ∙ ap (λ b. cond b (column_entry p r.attributes name row ∷ []) []) (passed (value_of cells) name (text_under r.attributes row name) (λ t. refl) refl cell_reads.value)

      name_said : of_name (A_text name) ≡ map (column_entry p r.attributes name) (filter (says p r.attributes name) r.rows)
      name_said =
          ap (λ o. flat_map (λ y. entry_at (from_columns p at) (A_text name ∷ y ∷ [])) (o >>= all_rows)) there
          ∙ rows_listed r (λ y. entry_at (from_columns p at) (A_text name ∷ y ∷ [])) (λ row. cond (says p r.attributes name row) (column_entry p r.attributes name row ∷ []) []) cell_said
          ∙ flat_kept (says p r.attributes name) (column_entry p r.attributes name) r.rows

    each_name : (names : Row) → AllByRecursion (λ name. is_in name r.attributes ≡ true) names
        → AllByRecursion (λ name. of_name (A_text name) ≡ map (column_entry p r.attributes name) (filter (says p r.attributes name) r.rows)) names
    each_name [] h = tt
    each_name (name ∷ names) h = (name_said name h.0, each_name names h.1)

    own_names : (xs : Row) → AllByRecursion (λ name. is_in name xs ≡ true) xs
    own_names [] = tt
    own_names (x ∷ xs) = (rw (equal_itself text_order x) refl, more xs (own_names xs))
      where
        more : (ys : Row) → AllByRecursion (λ name. is_in name xs ≡ true) ys → AllByRecursion (λ name. is_in name (x ∷ xs) ≡ true) ys
        more [] h = tt
        more (y ∷ ys) h = (ap (λ b. text_eq y x || b) h.0 ∙ or_right (text_eq y x), more ys h.1)

    pub columns_said : said c (from_columns p at) ≡ column_entries p r
    columns_said =
        two_declared c (from_columns p at) (range.Attributes (place.Fixed at.db) (place.Fixed at.rel)) tuples refl
        ∙ ap (λ o. flat_map of_name (o >>= (λ (x : RelationValue). map A_text x.attributes))) there
        ∙ flat_map-map of_name A_text r.attributes
        ∙ flat_agree (λ name. of_name (A_text name)) (λ name. map (column_entry p r.attributes name) (filter (says p r.attributes name) r.rows)) r.attributes (each_name r.attributes (own_names r.attributes))

-- ---- names as tables
abbrev pub table_entry : Parts → RelationValue → Row → Entry
table_entry p t row = record { key = row_under p.keys t.attributes row; name = t.name; value = text_under t.attributes row p.value }

abbrev pub table_entries : Parts → List RelationValue → List Entry
table_entries p ts = flat_map (λ (t : RelationValue). map (table_entry p t) t.rows) ts

-- a relation whose rows have a key and a value
pub record HasRest (p : Parts) (t : RelationValue) : Type 0 where
  pub fits : Fitting t.attributes t.rows
  pub keys : list_all (λ name. is_in name t.attributes) p.keys ≡ true
  pub value : is_in p.value t.attributes ≡ true

-- each relation of a database is found by its name
own_found : (ts : List RelationValue) → IsStrictlySortedBy text_cmp (map (λ (t : RelationValue). t.name) ts) → AllByRecursion (λ (t : RelationValue). find (λ (x : RelationValue). text_eq t.name x.name) ts ≡ Some t) ts
unfolding IsStrictlySortedBy
own_found [] sorted = tt
own_found (t ∷ ts) sorted = (rw (equal_itself text_order t.name) refl, later ts (own_found ts sorted.1) sorted.0)
  where
    later : (us : List RelationValue) → AllByRecursion (λ (u : RelationValue). find (λ (x : RelationValue). text_eq u.name x.name) ts ≡ Some u) us → AllByRecursion (λ n. text_cmp t.name n ≡ Less) (map (λ (u : RelationValue). u.name) us)
        → AllByRecursion (λ (u : RelationValue). find (λ (x : RelationValue). text_eq u.name x.name) (t ∷ ts) ≡ Some u) us
    later [] found less = tt
    later (u ∷ us) found less = (rw (less_differs text_order t.name u.name less.0) found.0, later us found.1 less.1)

module _ (p : Parts) (db : Text) (c : CatalogueValue) (d : DatabaseValue) (there : database_of c db ≡ Some d) (sorted : IsStrictlySortedBy text_cmp (relation_names d)) (rest : AllByRecursion (HasRest p) d.relations) where
  abbrev rows : Range
  rows = range.Tuples (place.Fixed db) (place.Var 0)

  abbrev of_table : Element → List Entry
  of_table x = flat_map (λ y. entry_at (from_tables p db) (x ∷ y ∷ [])) (elements c (x ∷ []) rows)

  module _ (t : RelationValue) (found : find (λ (x : RelationValue). text_eq t.name x.name) d.relations ≡ Some t) (has : HasRest p t) where
    module _ (k : ℕ) (row : Row) (here : slice_get t.rows k ≡ Some row) where
      fit : length row ≡ length t.attributes
      fit = get_all (λ (x : Row). length x ≡ length t.attributes) t.rows k row has.fits here

      abbrev tuple : Valuation
      tuple = A_text t.name ∷ A_row t k ∷ []

      tuple_reads : Reads (from_tables p db) tuple (table_entry p t row)
      tuple_reads = record {
        keys = cells_read tuple 1 t k row refl here p.keys ∙ cells_there t.attributes row p.keys fit has.keys;
        name = refl;
        value = cell_read tuple 1 t k row refl here p.value ∙ cell_there t.attributes row p.value fit has.value;
      }

      tuple_said : entry_at (from_tables p db) tuple ≡ table_entry p t row ∷ []
      tuple_said = entry_read (from_tables p db) tuple (table_entry p t row) tuple_reads

    table_said : of_table (A_text t.name) ≡ map (table_entry p t) t.rows
    table_said =
        ap (λ (o : Option DatabaseValue). flat_map (λ y. entry_at (from_tables p db) (A_text t.name ∷ y ∷ [])) (option_and_then (relation_in t.name) o >>= all_rows)) there
        ∙ ap (λ (o : Option RelationValue). flat_map (λ y. entry_at (from_tables p db) (A_text t.name ∷ y ∷ [])) (o >>= all_rows)) found
        ∙ rows_listed t (λ y. entry_at (from_tables p db) (A_text t.name ∷ y ∷ [])) (λ row. table_entry p t row ∷ []) tuple_said
        ∙ flat_map_single (table_entry p t) t.rows

  each_table : (ts : List RelationValue) → AllByRecursion (λ (t : RelationValue). find (λ (x : RelationValue). text_eq t.name x.name) d.relations ≡ Some t) ts → AllByRecursion (HasRest p) ts
      → AllByRecursion (λ (t : RelationValue). of_table (A_text t.name) ≡ map (table_entry p t) t.rows) ts
  each_table [] found has = tt
  each_table (t ∷ ts) found has = (table_said t found.0 has.0, each_table ts found.1 has.1)

  pub tables_said : said c (from_tables p db) ≡ table_entries p d.relations
  tables_said =
      two_declared c (from_tables p db) (range.Relations (place.Fixed db)) rows refl
      ∙ ap (λ (o : Option DatabaseValue). flat_map of_table (o >>= (λ (x : DatabaseValue). map (λ (t : RelationValue). A_text t.name) x.relations))) there
      ∙ flat_map-map of_table (λ (t : RelationValue). A_text t.name) d.relations
      ∙ flat_agree (λ (t : RelationValue). of_table (A_text t.name)) (λ (t : RelationValue). map (table_entry p t) t.rows) d.relations (each_table d.relations (own_found d.relations sorted) rest)
