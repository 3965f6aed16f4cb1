-- What is read back from tables that names were made of: the same entries.
use Rattle.std.proofs.Common.{◌≡◌, ◌∙◌, ◌+◌, inl, inr, true, List, [], ◌∷◌, ◌++◌, Some, map, length, length-append, refl, sym, ap, subst}
use Rattle.std.specs.Prelude.{bytes_eq}
use Rattle.std.specs.List.{list_all, AllByRecursion, IsDistinct}
use Rattle.std.proofs.lemmas.List.Folds.{flat_map-map}
use Rattle.ss_text.specs.Texts.{Text, Row, text_eq, row_cmp, is_in}
use Rattle.ss_text.specs.Ascending.{ascending}
use Rattle.ss_text.proofs.KeyLemmas.{text_order, row_order, equal_itself}
use Rattle.ss_text.proofs.SetLemmas.{SameElements}
use Rattle.schema_model.specs.Catalogue.{RelationValue, CatalogueValue, database_value, database_of}
use Rattle.flow_law.specs.Facts.{Fact, facts_of}
use Rattle.view_meaning.specs.Meaning.{facts}
use Rattle.view_meaning.specs.Orders.{text_under, row_under}
use Rattle.view_stack.specs.Stands.{given_by}
use Rattle.round_trip_law.specs.Forms.{Parts, header, Source, from_tables, to_tables}
use Rattle.round_trip_law.proofs.CellLemmas.{own_texts, text_next, IsApart, apart}
use Rattle.round_trip_law.proofs.Entries.{Entry, AreFull, table_fact, said}
use Rattle.round_trip_law.proofs.Members.{all_by, list_all_by, ascending_in, regrouped}
use Rattle.view_meaning.proofs.OrderLemmas.{In, in_all, in_any, in_append, map_in, kept_in}
use Rattle.round_trip_law.proofs.SourceLemmas.{HasRest, table_entry, table_entries, tables_said}
use Rattle.round_trip_law.proofs.TargetLemmas.{rest, table_of_name, names_of, tables_made, names_ascend}

module _ (p : Parts) (db : Text) (distinct : IsDistinct bytes_eq (header p)) where
  are_apart : IsApart p.keys p.name p.value
  are_apart = apart p.keys p.name p.value distinct

  -- what is read back of a row of a name's table
  abbrev back : Text → Row → Entry
  back name row = record { key = row_under p.keys (rest p db) row; name = name; value = text_under (rest p db) row p.value }

  read_back : (e : Entry) → length e.key ≡ length p.keys → back e.name (e.key ++ e.value ∷ []) ≡ e
  read_back e l =
      let key = own_texts p.keys (p.value ∷ []) e.key (e.value ∷ []) l are_apart.keys_apart in
      let value = text_next p.keys e.key p.value e.value [] [] l are_apart.second in
      λ i. record { key = key i; name = e.name; value = value i }

  all_back : (es : List Entry) → AreFull p es → map (λ (f : Fact). back f.label f.key) (map table_fact es) ≡ es
  all_back [] h = refl
  all_back (e ∷ es) h = λ i. read_back e h.0 i ∷ all_back es h.1 i

  keys_there : list_all (λ a. is_in a (rest p db)) p.keys ≡ true
  keys_there = list_all_by (λ a. is_in a (rest p db)) p.keys (λ a i. in_any (text_eq a) a (rest p db) (in_append a p.keys (p.value ∷ []) (inl i)) (equal_itself text_order a))

  value_there : is_in p.value (rest p db) ≡ true
  value_there = in_any (text_eq p.value) p.value (rest p db) (in_append p.value p.keys (p.value ∷ []) (inr (inl refl))) (equal_itself text_order p.value)

  module _ (es : List Entry) (full : AreFull p es) where
    abbrev fs : List Fact
    fs = map table_fact es

    long : (f : Fact) → In f fs → length f.key ≡ length (rest p db)
    long f i =
        let e = map_in table_fact f es i in
        let l : length (e.0).key ≡ length p.keys = in_all (λ (e : Entry). length e.key ≡ length p.keys) e.0 es e.1 full in
        ap (λ (g : Fact). length g.key) e.2 ∙ length-append (e.0).key ((e.0).value ∷ []) ∙ ap (λ n. n + 1) l ∙ sym (length-append p.keys (p.value ∷ []))

    has_rest : (name : Text) → HasRest p (table_of_name p db fs name)
    has_rest name = record {
      fits = all_by (λ (row : Row). length row ≡ length (rest p db)) (ascending row_cmp (map (λ (f : Fact). f.key) (facts_of name fs)))
          (λ row i.
          let f = map_in (λ (f : Fact). f.key) row (facts_of name fs) (ascending_in row_order row (map (λ (f : Fact). f.key) (facts_of name fs)) i) in
          ap length f.2 ∙ long f.0 (kept_in (λ (f : Fact). text_eq name f.label) fs f.0 f.1).0);
      keys = keys_there;
      value = value_there;
    }

    have_rest : (names : List Text) → AllByRecursion (HasRest p) (map (table_of_name p db fs) names)
    have_rest [] = tt
    have_rest (name ∷ names) = (has_rest name, have_rest names)

    -- the entries that are read back are the same
    abbrev pub again : List Entry
    again = table_entries p (map (table_of_name p db fs) (names_of p db fs))

    pub same_again : SameElements again es
    same_again =
        subst (λ (xs : List Entry). SameElements xs es) (sym (flat_map-map (λ (t : RelationValue). map (table_entry p t) t.rows) (table_of_name p db fs) (names_of p db fs)))
        (subst (SameElements _) (all_back es full) (regrouped row_order text_order (λ (f : Fact). f.key) (λ (f : Fact). f.label) back fs))

    db_there : (ts : List RelationValue) → database_of (database_value db ts ∷ []) db ≡ Some (database_value db ts)
    db_there ts = rw (equal_itself text_order db) refl

    -- the tables that a view makes of entries say these
    pub tables_say : (c : CatalogueValue) (s : Source) → facts c (to_tables p db s) ≡ fs → said (given_by c (to_tables p db s)) (from_tables p db) ≡ again
    tables_say c s are =
        let ts = map (table_of_name p db fs) (names_of p db fs) in
        ap (λ (d : CatalogueValue). said d (from_tables p db)) (tables_made p db c s fs are)
        ∙ tables_said p db (database_value db ts ∷ []) (database_value db ts) (db_there ts) (names_ascend p db fs) (have_rest (names_of p db fs))
