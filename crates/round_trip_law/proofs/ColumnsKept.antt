-- The catalogue that a view makes of entries whose names are columns, and what is read back from it: those with a value.
use Rattle.std.proofs.Common.{◌≡◌, ◌∙◌, ◌+◌, ◌||◌, ◌&&◌, inl, inr, ℕ, zero, suc, Bool, true, false, List, [], ◌∷◌, ◌++◌, Some, map, length, length-append, append-nil, refl, sym, ap, subst, arith}
use Rattle.std.specs.Prelude.{not, filter, bytes_eq}
use Rattle.std.specs.List.{filter_map, list_all, AllByRecursion, IsDistinct}
use Rattle.std.proofs.lemmas.List.{length-map}
use Rattle.ss_text.specs.Texts.{Text, Row, text_eq, text_cmp, row_cmp, is_in}
use Rattle.ss_text.specs.Ascending.{ascending}
use Rattle.ss_text.proofs.KeyLemmas.{text_order, row_order, equal_itself, equal_is}
use Rattle.ss_text.proofs.SetLemmas.{SameElements}
use Rattle.schema_model.specs.Catalogue.{RelationValue, CatalogueValue, relation_value, database_value, relation_of}
use Rattle.flow_law.specs.Facts.{Fact, column_of}
use Rattle.flow_law.specs.FactTables.{value_for, fact_table, tables}
use Rattle.flow_law.specs.Labelled.{AllBear}
use Rattle.flow_law.proofs.FactTableLemmas.{constant_tables}
use Rattle.view_meaning.specs.Elements.{cell_under}
use Rattle.view_meaning.specs.Meaning.{given, facts, shape_of, meaning}
use Rattle.view_meaning.specs.Orders.{text_under, row_under}
use Rattle.view_stack.specs.Stands.{catalogue_for, given_by}
use Rattle.flow_law.specs.Records.{spliced, row_records}
use Rattle.round_trip_law.specs.Forms.{Named, Parts, Source, from_columns, to_columns}
use Rattle.round_trip_law.specs.Kept.{has_text, says}
use Rattle.round_trip_law.proofs.CellLemmas.{cell_behind, own_texts, mapped_twice}
use Rattle.view_meaning.proofs.OrderLemmas.{cell_here, cell_later, In, in_all, in_any, in_append, append_in, in_map, map_in, in_kept, kept_in, flat_in, in_flat}
use Rattle.round_trip_law.proofs.Entries.{Entry, AreFull, column_fact, said}
use Rattle.round_trip_law.proofs.Members.{all_by, list_all_by, in_ascending, ascending_in, same_by}
use Rattle.round_trip_law.proofs.SourceLemmas.{Fitting, column_entry, column_entries, columns_said}
use Rattle.round_trip_law.proofs.ValuesAt.{some_clash, own_value, value_of_some, IsOf}

-- what stands behind all constant columns
spliced_last : (n : ℕ) (xs ys : Row) → length xs ≡ n → spliced (Some n) xs ys ≡ xs ++ ys
spliced_last zero [] ys l = append-nil ys
spliced_last zero (x ∷ xs) ys l = absurd (omega (arith, l))
spliced_last (suc n) [] ys l = absurd (omega (arith, l))
spliced_last (suc n) (x ∷ xs) ys l = ap (λ (rest : Row). x ∷ rest) (spliced_last n xs ys (omega (arith, l)))

-- the cell of a row of cells that are made of their names
made_cell : (f : Text → Text) (ns : Row) (a : Text) → is_in a ns ≡ true → cell_under ns a (map f ns) ≡ Some (f a)
made_cell f [] a h = absurd (cc)
made_cell f (x ∷ ns) a h = by_first (text_eq a x) refl (made_cell f ns a)
  where
    by_first : (b : Bool) → text_eq a x ≡ b → (is_in a ns ≡ true → cell_under ns a (map f ns) ≡ Some (f a)) → cell_under (x ∷ ns) a (f x ∷ map f ns) ≡ Some (f a)
    by_first true e rest = cell_here x ns (f x) (map f ns) a e ∙ ap (λ (t : Text). Some (f t)) (sym (equal_is text_order a x e))
    by_first false e rest = cell_later x ns (f x) (map f ns) a e ∙ rest (sym (ap (λ b. b || is_in a ns) e) ∙ h)

-- ---- the catalogue
module _ (p : Parts) (to : Named) (es : List Entry) where
  abbrev pub facts_made : List Fact
  facts_made = map (column_fact to) es

  abbrev pub names_made : Row
  names_made = ascending text_cmp (map (λ (e : Entry). e.name) es)

  abbrev pub keys_made : List Row
  keys_made = ascending row_cmp (map (λ (e : Entry). e.key) es)

  -- the row of a key
  abbrev pub row_made : Row → Row
  row_made key = key ++ map (value_for facts_made key) names_made

  abbrev pub relation_made : RelationValue
  relation_made = relation_value to.rel (p.keys ++ names_made) (map row_made keys_made)

  all_bear : (es : List Entry) → AllBear to.rel (map (column_fact to) es)
  all_bear [] = tt
  all_bear (e ∷ es) = (refl, all_bear es)

  names_are : (es : List Entry) → filter_map column_of (map (column_fact to) es) ≡ map (λ (e : Entry). e.name) es
  names_are [] = refl
  names_are (e ∷ es) = ap (λ (ns : Row). e.name ∷ ns) (names_are es)

  module _ (full : AreFull p es) where
    pub key_long : (key : Row) → In key keys_made → length key ≡ length p.keys
    key_long key i =
        let e = map_in (λ (e : Entry). e.key) key es (ascending_in row_order key (map (λ (e : Entry). e.key) es) i) in
        ap length e.2 ∙ in_all (λ (e : Entry). length e.key ≡ length p.keys) e.0 es e.1 full

    rows_are : (keys : List Row) → AllByRecursion (λ (key : Row). length key ≡ length p.keys) keys
        → row_records (Some (length p.keys)) (map (λ (key : Row). let row : Row × Row = (key, map (value_for facts_made key) names_made) in row) keys) ≡ map row_made keys
    rows_are [] h = refl
    rows_are (key ∷ keys) h = λ i. spliced_last (length p.keys) key (map (value_for facts_made key) names_made) h.0 i ∷ rows_are keys h.1 i

    module _ (c : CatalogueValue) (s : Source) (is : facts c (to_columns p to s) ≡ facts_made) where
      tables_are : meaning c (to_columns p to s) ≡ (to.rel, fact_table facts_made) ∷ []
      unfolding meaning
      tables_are = ap (tables (shape_of (to_columns p to s))) is ∙ constant_tables to.rel (shape_of (to_columns p to s)) facts_made refl (all_bear es)

      pub columns_made : given_by c (to_columns p to s) ≡ database_value to.db (relation_made ∷ []) ∷ []
      columns_made =
          let keys : List Row = ascending row_cmp (map (λ (f : Fact). f.key) facts_made) in
          let same_keys : keys ≡ keys_made = ap (ascending row_cmp) (mapped_twice (λ (f : Fact). f.key) (column_fact to) es) in
          ap (catalogue_for to.db (shape_of (to_columns p to s))) tables_are
          ∙ (λ i. database_value to.db (relation_value to.rel (spliced (Some (length p.keys)) p.keys (ascending text_cmp (names_are es i))) (row_records (Some (length p.keys)) (map (λ (key : Row). let row : Row × Row = (key, map (value_for facts_made key) (ascending text_cmp (names_are es i))) in row) (same_keys i))) ∷ []) ∷ [])
          ∙ (λ i. database_value to.db (relation_value to.rel (spliced_last (length p.keys) p.keys names_made refl i) (rows_are keys_made (all_by (λ (key : Row). length key ≡ length p.keys) keys_made key_long) i) ∷ []) ∷ [])

  -- ---- read back
  module _ (full : AreFull p es) (distinct : IsDistinct bytes_eq p.keys) where
    abbrev attributes : Row
    attributes = p.keys ++ names_made

    row_fits : (key : Row) → In key keys_made → length (row_made key) ≡ length attributes
    row_fits key i =
        length-append key (map (value_for facts_made key) names_made) ∙ (λ j. key_long full key i j + length-map names_made (value_for facts_made key) j) ∙ sym (length-append p.keys names_made)

    all_fit : Fitting attributes (map row_made keys_made)
    all_fit = all_by (λ (row : Row). length row ≡ length attributes) (map row_made keys_made) (λ row i. let key = map_in row_made row keys_made i in ap length key.2 ∙ row_fits key.0 key.1)

    keys_there : list_all (λ a. is_in a attributes) p.keys ≡ true
    keys_there = list_all_by (λ a. is_in a attributes) p.keys (λ a i. in_any (text_eq a) a attributes (in_append a p.keys names_made (inl i)) (equal_itself text_order a))

    -- the cell of a key and a name
    text_made : (key : Row) (a : Text) → In key keys_made → In a names_made → is_in a p.keys ≡ false → text_under attributes (row_made key) a ≡ value_for facts_made key a
    text_made key a i j apart =
        ap given (cell_behind p.keys names_made key (map (value_for facts_made key) names_made) a (key_long full key i) apart
        ∙ made_cell (value_for facts_made key) names_made a (in_any (text_eq a) a names_made j (equal_itself text_order a)))

    key_made : (key : Row) → In key keys_made → row_under p.keys attributes (row_made key) ≡ key
    key_made key i = own_texts p.keys names_made key (map (value_for facts_made key) names_made) (key_long full key i) distinct

    entry_made : (key : Row) (a : Text) → In key keys_made → In a names_made → is_in a p.keys ≡ false → column_entry p attributes a (row_made key) ≡ record { key = key; name = a; value = value_for facts_made key a }
    entry_made key a i j apart = λ k. record { key = key_made key i k; name = a; value = text_made key a i j apart k }

    abbrev pub read_columns : List Entry
    read_columns = column_entries p relation_made

    -- with which a name is no key, and no two clash
    module _ (legal : (e : Entry) → In e es → is_in e.name p.keys ≡ false) (none : some_clash es ≡ false) where
      abbrev some_value : Entry → Bool
      some_value e = has_text e.value

      both : (a b : Bool) → (not a && b) ≡ true → (a ≡ false) × (b ≡ true)
      both true b h = absurd (cc)
      both false b h = (refl, h)

      no_name : (a : Text) → In a attributes → is_in a p.keys ≡ false → In a names_made
      no_name a i apart = elim (append_in a p.keys names_made i) [
        | inl j ↦ (let there : is_in a p.keys ≡ true = in_any (text_eq a) a p.keys j (equal_itself text_order a) in let bad : true ≡ false = sym there ∙ apart in absurd (cc))
        | inr j ↦ j
      ]

      out : (e : Entry) → In e read_columns → In e (filter some_value es)
      out e i =
          let a = flat_in (λ a. map (column_entry p attributes a) (filter (says p attributes a) (map row_made keys_made))) attributes e i in
          let row = map_in (column_entry p attributes a.0) e (filter (says p attributes a.0) (map row_made keys_made)) a.2 in
          let kept = kept_in (says p attributes a.0) (map row_made keys_made) row.0 row.1 in
          let key = map_in row_made row.0 keys_made kept.0 in
          let told = both (is_in a.0 p.keys) (has_text (text_under attributes row.0 a.0)) kept.1 in
          let name = no_name a.0 a.1 told.0 in
          let is : e ≡ record { key = key.0; name = a.0; value = value_for facts_made key.0 a.0 } = row.2 ∙ ap (column_entry p attributes a.0) key.2 ∙ entry_made key.0 a.0 key.1 name told.0 in
          let some : has_text (value_for facts_made key.0 a.0) ≡ true = ap has_text (sym (text_made key.0 a.0 key.1 name told.0)) ∙ ap (λ (r : Row). has_text (text_under attributes r a.0)) (sym key.2) ∙ told.1 in
          let own : IsOf to es key.0 a.0 (value_for facts_made key.0 a.0) = value_of_some to es key.0 a.0 some in
          let same : own.entry ≡ e = (λ j. record { key = own.key_is j; name = own.name_is j; value = own.value_is j }) ∙ sym is in
          in_kept some_value es e (subst (λ (x : Entry). In x es) same own.there) (ap some_value is ∙ some)

      again : (e : Entry) → In e (filter some_value es) → In e read_columns
      again e i =
          let kept = kept_in some_value es e i in
          let key = in_ascending row_order e.key (map (λ (e : Entry). e.key) es) (in_map (λ (e : Entry). e.key) e es kept.0) in
          let name = in_ascending text_order e.name (map (λ (e : Entry). e.name) es) (in_map (λ (e : Entry). e.name) e es kept.0) in
          let apart = legal e kept.0 in
          let value = own_value to es none e kept.0 kept.1 in
          let made : column_entry p attributes e.name (row_made e.key) ≡ e = entry_made e.key e.name key name apart ∙ (λ j. record { key = e.key; name = e.name; value = value j }) in
          let told : says p attributes e.name (row_made e.key) ≡ true = (λ j. not (apart j) && has_text (text_made e.key e.name key name apart j)) ∙ ap has_text value ∙ kept.1 in
          let row = in_kept (says p attributes e.name) (map row_made keys_made) (row_made e.key) (in_map row_made e.key keys_made key) told in
          let there = in_map (column_entry p attributes e.name) (row_made e.key) (filter (says p attributes e.name) (map row_made keys_made)) row in
          in_flat (λ a. map (column_entry p attributes a) (filter (says p attributes a) (map row_made keys_made))) attributes e.name e (in_append e.name p.keys names_made (inr name)) (subst (λ (x : Entry). In x (map (column_entry p attributes e.name) (filter (says p attributes e.name) (map row_made keys_made)))) made there)

      pub columns_same : SameElements read_columns (filter some_value es)
      columns_same = same_by read_columns (filter some_value es) out again

    there : relation_of (database_value to.db (relation_made ∷ []) ∷ []) to.db to.rel ≡ Some relation_made
    there = rw (equal_itself text_order to.db, equal_itself text_order to.rel) refl

    pub columns_say : (c : CatalogueValue) (s : Source) → facts c (to_columns p to s) ≡ facts_made → said (given_by c (to_columns p to s)) (from_columns p to) ≡ read_columns
    columns_say c s is =
        ap (λ (d : CatalogueValue). said d (from_columns p to)) (columns_made full c s is)
        ∙ columns_said p to (database_value to.db (relation_made ∷ []) ∷ []) relation_made there all_fit keys_there
