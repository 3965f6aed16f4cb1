-- Elements that are looked up give the same list of facts as all elements.
use Rattle.std.proofs.Common.{◌≡◌, ◌+◌, ℕ, zero, suc, Bool, true, false, cond, List, [], ◌∷◌, ◌++◌, Option, Some, None, length, map, drop, refl, sym, ap, ◌∙◌, arith}
use Rattle.std.specs.Prelude.{filter_map, flat_map, slice_get, option_and_then}
use Rattle.std.specs.List.{range_with_len}
use Rattle.ss_text.specs.Texts.{Text, Row, text_eq}
use Rattle.ss_text.proofs.KeyLemmas.{text_order, equal_is}
use Rattle.schema_model.specs.Catalogue.{CatalogueValue, DatabaseValue, RelationValue, database_of, relation_in}
use Rattle.view_def.specs.declared.typed.Place.{Place}
use Rattle.view_def.specs.declared.typed.Range.TheVariants as range
use Rattle.view_def.specs.Query.{Query}
use Rattle.flow_law.specs.Facts.{Fact}
use Rattle.valuation_meaning.specs.declared.index.Lists.{Lists}
use Rattle.valuation_meaning.specs.declared.index.Lists.TheVariants as lists
use Rattle.valuation_meaning.specs.declared.lookups.Lookup.{Lookup}
use Rattle.view_meaning.specs.Elements.{Element, Valuation, A_text, A_row, cell_of_element, cell_under, place_text, relation_at, elements}
use Rattle.view_meaning.specs.Terms.{value_of}
use Rattle.valuation_meaning.specs.Listing.{facts_after, AreEnough}
use Rattle.view_meaning.specs.Early.{AliasesAgree}
use Rattle.valuation_meaning.specs.Indexed.{cells_of, is_cell, places_of}
use Rattle.valuation_meaning.specs.Resolved.{operand_term}
use Rattle.valuation_meaning.specs.Found.{found_at, found_in}
use Rattle.valuation_meaning.specs.Columns.{range_by, range_of, part_by, compared, is_sought}
use Rattle.valuation_meaning.specs.Lookups.{IsLookup, looked_up}
use Rattle.valuation_meaning.proofs.AliasLemmas.{no_alias, no_facts_more}
use Rattle.valuation_meaning.proofs.ListingLemmas.{all_enough}

-- ---- the rows of one text, and all rows
module _ {B : Type 0} (f : Element → List B) (r : RelationValue) (t : Text) where
  picked : (n : ℕ) (cs : List (Option Text)) → ((i : ℕ) (c : Option Text) → slice_get cs i ≡ Some c → is_cell t c ≡ false → f (A_row r (n + i)) ≡ [])
      → flat_map f (map (A_row r) (range_with_len n (length cs))) ≡ flat_map f (map (A_row r) (places_of t n cs))
  picked n [] h = refl
  picked n (c ∷ cs) h =
      by_test (is_cell t c) refl (picked (n + 1) cs (λ i d at unlike.
      let same : n + 1 + i ≡ n + suc i = omega arith in
      rw same (h (suc i) d at unlike)))
    where
      first : is_cell t c ≡ false → f (A_row r n) ≡ []
      first unlike =
          let same : n + 0 ≡ n = omega arith in
          rw same at (h 0 c refl unlike)

      by_test : (b : Bool) → is_cell t c ≡ b → flat_map f (map (A_row r) (range_with_len (n + 1) (length cs))) ≡ flat_map f (map (A_row r) (places_of t (n + 1) cs))
          → f (A_row r n) ++ flat_map f (map (A_row r) (range_with_len (n + 1) (length cs)))
          ≡ flat_map f (map (A_row r) (cond b (n ∷ places_of t (n + 1) cs) (places_of t (n + 1) cs)))
      by_test true is rest = ap (λ l. f (A_row r n) ++ l) rest
      by_test false unlike rest = rw (first unlike) rest

-- the cell of a row is that of its place
cell_at_place : (r : RelationValue) (a : Text) (rows : List Row) (i : ℕ) (c : Option Text) → slice_get (map (cell_under r.attributes a) rows) i ≡ Some c
    → option_and_then (cell_under r.attributes a) (slice_get rows i) ≡ c
cell_at_place r a [] i c e = absurd (cc)
cell_at_place r a (row ∷ rows) zero c e = cc
cell_at_place r a (row ∷ rows) (suc i) c e = cell_at_place r a rows i c e

cells_long : (r : RelationValue) (a : Text) (rows : List Row) → length (map (cell_under r.attributes a) rows) ≡ length rows
cells_long r a [] = refl
cells_long r a (row ∷ rows) = ap suc (cells_long r a rows)

-- ---- the cells of one text, and all cells
module _ {B : Type 0} (f : Element → List B) (r : RelationValue) (a t : Text) (unlike : (u : Text) → text_eq t u ≡ false → f (A_text u) ≡ []) where
  abbrev of_places : List ℕ → List B
  of_places ps = flat_map f (map (found_at lists.Cells r t) ps)

  one_cell : (n : ℕ) (u : Text) (b : Bool) → text_eq t u ≡ b → (behind : List B) (ps : List ℕ) → behind ≡ of_places ps → f (A_text u) ++ behind ≡ of_places (cond b (n ∷ ps) ps)
  one_cell n u true is behind ps rest =
      let same : u ≡ t = sym (equal_is text_order t u is) in
      rw (same, rest) refl
  one_cell n u false is behind ps rest = rw (unlike u is) rest

  picked_cells : (n : ℕ) (rows : List Row) → flat_map f (map A_text (filter_map (cell_under r.attributes a) rows)) ≡ of_places (places_of t n (map (cell_under r.attributes a) rows))
  picked_cells n [] = refl
  picked_cells n (row ∷ rows) = by_cell (cell_under r.attributes a row) refl (picked_cells (n + 1) rows)
    where
      by_cell : (o : Option Text) → cell_under r.attributes a row ≡ o
          → flat_map f (map A_text (filter_map (cell_under r.attributes a) rows)) ≡ of_places (places_of t (n + 1) (map (cell_under r.attributes a) rows))
          → flat_map f (map A_text (filter_map (cell_under r.attributes a) (row ∷ rows))) ≡ of_places (places_of t n (cell_under r.attributes a row ∷ map (cell_under r.attributes a) rows))
      by_cell None is rest = rw is rest
      by_cell (Some u) is rest = rw is (one_cell n u (text_eq t u) refl _ (places_of t (n + 1) (map (cell_under r.attributes a) rows)) rest)

-- ---- the next declaration
none_given : {B : Type 0} (f : Element → List B) (es : List Element) → ((e : Element) → f e ≡ []) → flat_map f es ≡ []
none_given f [] h = refl
none_given f (e ∷ es) h = rw (h e) (none_given f es h)

module _ (c : CatalogueValue) (q : Query) (v : Valuation) (l : Lookup) (is : IsLookup q l) (at : l.place ≡ length v) (agree : AliasesAgree q v) where
  abbrev next : Element → List Fact
  next e = facts_after c q (v ++ e ∷ []) (drop (length v + 1) q.decls)

  abbrev sought : Option Text
  sought = value_of v (operand_term l.sought)

  here : Some (range_of l.column) ≡ slice_get q.decls (length v)
  here = is.range ∙ ap (slice_get q.decls) at

  -- no element of such a declaration is an alias's
  pub any_agrees : (e : Element) → AliasesAgree q (v ++ e ∷ [])
  any_agrees e = no_alias c q v e (range_of l.column) agree here (not_alias l.column.lists)
    where
      not_alias : (ls : Lists) (j : ℕ) (b : Place) → range_by ls l.column.db.now l.column.rel.now l.column.attribute.now ≡ range.Alias j b → ⊥
      not_alias lists.Rows j b h = absurd (cc)
      not_alias lists.Cells j b h = absurd (cc)

  none_of : (e : Element) → is_sought sought (compared v l.column e) ≡ false → next e ≡ []
  none_of e unlike = no_facts_more c q v e (any_agrees e) (is.equal v e (sym at) unlike)

  abbrev all : List Element
  all = elements c v (range_of l.column)

  abbrev Enough : List Element → Type 0
  Enough es = flat_map next all ≡ flat_map next es

  no_value : sought ≡ None → Enough []
  no_value value = none_given next all (λ e. none_of e (rw value refl))

  -- the value that is sought is there
  module _ (t : Text) (value : sought ≡ Some t) where
    no_relation : relation_at c v l.column.db.now l.column.rel.now ≡ None → Enough []
    no_relation none = by_lists l.column.lists
      where
        by_lists : (ls : Lists) → flat_map next (elements c v (range_by ls l.column.db.now l.column.rel.now l.column.attribute.now)) ≡ []
        by_lists lists.Rows = rw none refl
        by_lists lists.Cells = rw none refl

    module _ (r : RelationValue) (there : relation_at c v l.column.db.now l.column.rel.now ≡ Some r) where
      no_name : place_text v l.column.attribute.now ≡ None → Enough []
      no_name none = by_lists l.column.lists none_of
        where
          by_lists : (ls : Lists) → ((e : Element) → is_sought sought (part_by ls v l.column.attribute.now e) ≡ false → next e ≡ [])
              → flat_map next (elements c v (range_by ls l.column.db.now l.column.rel.now l.column.attribute.now)) ≡ []
          by_lists lists.Rows ends = none_given next _ (λ e. ends e (rw (value, none) refl))
          by_lists lists.Cells ends = rw (there, none) refl

      found : (a : Text) → place_text v l.column.attribute.now ≡ Some a → Enough (found_in l.column.lists (r, a) t)
      found a name = by_lists l.column.lists none_of
        where
          by_lists : (ls : Lists) → ((e : Element) → is_sought sought (part_by ls v l.column.attribute.now e) ≡ false → next e ≡ [])
              → flat_map next (elements c v (range_by ls l.column.db.now l.column.rel.now l.column.attribute.now)) ≡ flat_map next (found_in ls (r, a) t)
          by_lists lists.Rows ends =
              rw there
              (ap (λ n. flat_map next (map (A_row r) (range_with_len 0 n))) (sym (cells_long r a r.rows))
              ∙ picked next r t 0 (cells_of (r, a)) (λ i cell reads unlike. ends (A_row r (0 + i)) (wrong i cell reads unlike)))
            where
              wrong : (i : ℕ) (cell : Option Text) → slice_get (cells_of (r, a)) i ≡ Some cell → is_cell t cell ≡ false → is_sought sought (option_and_then (cell_of_element (A_row r (0 + i))) (place_text v l.column.attribute.now)) ≡ false
              wrong i cell reads unlike =
                  let zero_more : 0 + i ≡ i = omega arith in
                  rw (zero_more, value, name, cell_at_place r a r.rows i cell reads) unlike
          by_lists lists.Cells ends = rw (there, name) (picked_cells next r a t (λ u unlike. ends (A_text u) (rw value unlike)) 0 r.rows)

  -- by the names of its relation and its attribute
  by_names : (t : Text) → sought ≡ Some t → (db rel a : Option Text) → place_text v l.column.db.now ≡ db → place_text v l.column.rel.now ≡ rel → place_text v l.column.attribute.now ≡ a → Enough (looked_up c v l)
  by_names t value None rel a is_db is_rel is_a = rw (value, is_db) (no_relation t value (rw is_db refl))
  by_names t value (Some db) None a is_db is_rel is_a = rw (value, is_db, is_rel) (no_relation t value (no_second (option_and_then (database_of c) (place_text v l.column.db.now)) is_rel))
    where
      no_second : (o : Option DatabaseValue) → place_text v l.column.rel.now ≡ None → option_and_then (λ d. option_and_then (λ name. relation_in name d) (place_text v l.column.rel.now)) o ≡ None
      no_second None h = refl
      no_second (Some d) h = rw h refl
  by_names t value (Some db) (Some rel) a is_db is_rel is_a = by_relation (relation_at c v l.column.db.now l.column.rel.now) refl a is_a
    where
      by_relation : (o : Option RelationValue) → relation_at c v l.column.db.now l.column.rel.now ≡ o → (a : Option Text) → place_text v l.column.attribute.now ≡ a → Enough (looked_up c v l)
      by_relation None there None is_a = rw (value, is_db, is_rel, is_a) (no_relation t value there)
      by_relation None there (Some a) is_a =
          let none = rw (is_db, is_rel) at there in
          rw (value, is_db, is_rel, is_a, none) (no_relation t value there)
      by_relation (Some r) there None is_a = rw (value, is_db, is_rel, is_a) (no_name t value r there is_a)
      by_relation (Some r) there (Some a) is_a =
          let one = rw (is_db, is_rel) at there in
          rw (value, is_db, is_rel, is_a, one) (found t value r there a is_a)

  pub enough : AreEnough c q v (looked_up c v l)
  enough = all_enough c q v (range_of l.column) here ∙ by_value sought refl
    where
      by_value : (o : Option Text) → sought ≡ o → Enough (looked_up c v l)
      by_value None value = rw value (no_value value)
      by_value (Some t) value = by_names t value (place_text v l.column.db.now) (place_text v l.column.rel.now) (place_text v l.column.attribute.now) refl refl refl
