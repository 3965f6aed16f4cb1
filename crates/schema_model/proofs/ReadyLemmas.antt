-- The edits that are made ready are those of their changes.
use Rattle.std.proofs.Common.{◌≡◌, ◌<◌, ◌≤◌, ◌∙◌, ◌∷◌, [], ℕ, zero, suc, Bool, true, false, List, Some, None, refl, sym, ap, subst, map, length, slice_index_or, slice_set, arith, Bor}
use Rattle.std.specs.Prelude.{insert, remove, find, IsTrue, nat_le}
use Rattle.std.specs.List.{list_any, position, position_or_len}
use Rattle.std.specs.Option.{option_map_or}
use Rattle.std.proofs.lemmas.Bool.{false≢true}
use Rattle.std.proofs.lemmas.List.{length-map}
use Rattle.ss_text.specs.Texts.{Text, Row, text_cmp, text_eq, is_in}
use Rattle.ss_text.specs.Keys.{IsPlaceOf, IsPlaceFor}
use Rattle.ss_text.specs.Places.{at_place}
use Rattle.ss_text.proofs.KeyLemmas.{text_order, placed_for, removed_at, found_at, changed_at}
use Rattle.ss_text.proofs.PlaceLemmas.{each_at}
use Rattle.schema_model.specs.Catalogue.{RelationValue, DatabaseValue, CatalogueValue, relation_value, database_value, relation_name, database_name, database_of, relation_in, database_at, relation_at, with_row, with_relation_at}
use Rattle.schema_model.specs.Changes.{at_database, at_relation, with_relations, placed, without, less_row, with_attribute, less_attribute, renamed_attribute}
use Rattle.schema_model.specs.Sound.{IsHeader, IsDatabase, IsSound}
use Rattle.schema_model.specs.Refusals.{first_repeated}
use Rattle.std.proofs.lemmas.Bool.Decides.{nat_tests}
use Rattle.schema_model.specs.declared.change.Change.TheVariants.{Insert, Delete, AddAttribute, DropAttribute, RenameAttribute, CreateRelation, DropRelation, CreateDatabase, DropDatabase}
use Rattle.schema_model.proofs.NamedLists.{found_any, missed_any}
use Rattle.schema_model.proofs.RelationsKept.{length_set, none_repeated}
use Rattle.schema_model.proofs.ChangeLemmas.{changed_there, changed_alike, position_there}
use Rattle.schema_model.specs.States.{RelationState, DatabaseState, no_relation_state, plain_relation, plain_database, plain_databases, relation_state_at, database_state_at}
use Rattle.schema_model.specs.Edits.{Makes, Fits, FitsRelation, edited, relation_edited, database_edited}
use Rattle.schema_model.specs.declared.edit.RelationEdit.{RelationEdit}
use Rattle.schema_model.specs.declared.edit.RelationEdit.TheVariants.{Header}
use Rattle.schema_model.specs.declared.edit.DatabaseEdit.TheVariants as inner
use Rattle.schema_model.specs.declared.edit.CatalogueEdit.TheVariants as outer
use Rattle.schema_model.proofs.Seen.{same_seen, at_seen}
use Rattle.schema_model.specs.Limits.{most_attributes}

pub same_some : {A : Type 0} (a b : A) → Some a ≡ Some b → a ≡ b
same_some a b h = ap (λ o. option_map_or (λ x. x) o a) h

pub not_missed : {A : Type 0} (p : A → Bool) (xs : List A) (x : A) → find p xs ≡ Some x → false ≡ list_any p xs → ⊥
not_missed p xs x found missed = false≢true (missed ∙ found_any p xs x found)

pub not_found : {A : Type 0} (p : A → Bool) (xs : List A) → find p xs ≡ None → true ≡ list_any p xs → ⊥
not_found p xs none there = false≢true (sym (missed_any p xs none) ∙ sym there)

set_there : {A : Type 0} (xs : List A) (i : ℕ) (y d : A) → i < length xs → slice_index_or (slice_set xs i y) i d ≡ y
set_there [] i y d h = absurd (omega (arith, h))
set_there (x ∷ xs) zero y d h = refl
set_there (x ∷ xs) (suc i) y d h = set_there xs i y d (omega (arith, h))

same_at : {A : Type 0} (xs : List A) (i : ℕ) (d e : A) → i < length xs → slice_index_or xs i d ≡ slice_index_or xs i e
same_at [] i d e h = absurd (omega (arith, h))
same_at (x ∷ xs) zero d e h = refl
same_at (x ∷ xs) (suc i) d e h = same_at xs i d e (omega (arith, h))

pub within_seen : (ds : List DatabaseState) (i : ℕ) → i < length (plain_databases ds) → i < length ds
within_seen ds i h = rw (length-map ds plain_database) at h

pub created : (ds now : List DatabaseState) → now ≡ ds → (room : ℕ) (db : Text) (place : ℕ) (d : DatabaseState) → IsPlaceFor text_cmp database_name db (plain_databases ds) place → plain_database d ≡ database_value db [] → 0 < room
    → Makes now room (CreateDatabase db) (outer.Put place d)
created ds now same room db place d gap is some = subst (λ (xs : List DatabaseState). Makes xs room (CreateDatabase db) (outer.Put place d)) (sym same) (record {
  fits = (rw (length-map ds plain_database) at gap.within, some);
  makes = ap (insert (plain_databases ds) place) is ∙ sym (placed_for text_order database_name (database_value db []) (plain_databases ds) place gap);
})

pub dropped : (ds : List DatabaseState) (room : ℕ) (db : Text) (place : ℕ) → IsSound (plain_databases ds) → IsPlaceOf database_name db (plain_databases ds) place → Makes ds room (DropDatabase db) (outer.Out place)
dropped ds room db place h at = record {
  fits = within_seen ds place at.within;
  makes = sym (removed_at text_order database_name db (plain_databases ds) place h.names.ascend at);
}

module _ (ds : List DatabaseState) (db rel : Text) (i j : ℕ) (shown new : DatabaseState) (h : IsSound (plain_databases ds)) (at : IsPlaceOf database_name db (plain_databases ds) i) (is : shown ≡ slice_index_or ds i shown) where
  database_is : database_at i (plain_databases ds) ≡ plain_database shown
  database_is = at_seen plain_database ds i shown (database_value [] []) (within_seen ds i at.within) ∙ sym (ap plain_database is)

  pub relation_not_missed : (d : DatabaseValue) (r : RelationValue) → database_of (plain_databases ds) db ≡ Some d → relation_in rel d ≡ Some r → false ≡ list_any (λ (x : RelationValue). text_eq rel x.name) (plain_database shown).relations → ⊥
  relation_not_missed d r there found missed =
      let same : d ≡ plain_database shown = same_some d (plain_database shown) (sym there ∙ found_at text_order database_name db (plain_databases ds) i (database_value [] []) h.names.ascend at ∙ ap Some database_is) in
      not_missed (λ (x : RelationValue). text_eq rel x.name) (plain_database shown).relations r (subst (λ (x : DatabaseValue). relation_in rel x ≡ Some r) same found) missed

  pub still_all : plain_database new ≡ plain_database shown → plain_databases (slice_set ds i new) ≡ plain_databases ds
  still_all same = same_seen plain_database ds i new shown (within_seen ds i at.within) (same ∙ ap plain_database is)

  row_moved : (room : ℕ) (g : RelationValue → RelationValue) (edit : RelationEdit) → ((r : RelationValue) → relation_edited edit r ≡ g r) → plain_database new ≡ plain_database shown → IsPlaceOf relation_name rel (plain_database shown).relations j
      → FitsRelation edit (relation_state_at j new)
      → record { fits : Fits (outer.At i (inner.At j edit)) (slice_set ds i new) room; makes : edited (outer.At i (inner.At j edit)) (plain_databases (slice_set ds i new)) ≡ at_relation db rel g (plain_databases (slice_set ds i new)) }
  row_moved room g edit moves same rel_at ready =
      let c = plain_databases ds in
      let within = within_seen ds i at.within in
      let put : database_state_at i (slice_set ds i new) ≡ new = set_there ds i new _ within in
      let inside : j < length (plain_database new).relations = subst (λ (d : DatabaseValue). j < length d.relations) (sym same) rel_at.within in
      let there : j < length new.relations = rw (length-map new.relations plain_relation) at inside in
      let rel_there : IsPlaceOf relation_name rel (database_at i c).relations j = subst (λ (d : DatabaseValue). IsPlaceOf relation_name rel d.relations j) (sym database_is) rel_at in
      let alike : at_place i (with_relation_at j (relation_edited edit)) c ≡ at_place i (with_relation_at j g) c
      = changed_alike (with_relation_at j (relation_edited edit)) (with_relation_at j g) c i (database_value [] [])
      (ap (database_value (database_at i c).name) (changed_alike (relation_edited edit) g (database_at i c).relations j (relation_value [] [] []) (moves (relation_at j (database_at i c))))) in
      record {
        fits = (rw (length_set ds i new) within, subst (λ (d : DatabaseState). (j < length d.relations) × FitsRelation edit (relation_state_at j d)) (sym put) (there, ready));
        makes = subst (λ (x : CatalogueValue). at_place i (with_relation_at j (relation_edited edit)) x ≡ at_relation db rel g x) (sym (still_all same)) (alike ∙ sym (changed_there c db rel i j h at rel_there g));
      }

  pub inserted : (room : ℕ) (asked : Row) (edit : RelationEdit) → ((r : RelationValue) → relation_edited edit r ≡ with_row asked r) → plain_database new ≡ plain_database shown → IsPlaceOf relation_name rel (plain_database shown).relations j
      → FitsRelation edit (relation_state_at j new) → Makes (slice_set ds i new) room (Insert db rel asked) (outer.At i (inner.At j edit))
  inserted room asked edit adds same rel_at ready = let made = row_moved room (with_row asked) edit adds same rel_at ready in record { fits = made.fits; makes = made.makes }

  pub deleted : (room : ℕ) (asked : Row) (edit : RelationEdit) → ((r : RelationValue) → relation_edited edit r ≡ less_row asked r) → plain_database new ≡ plain_database shown → IsPlaceOf relation_name rel (plain_database shown).relations j
      → FitsRelation edit (relation_state_at j new) → Makes (slice_set ds i new) room (Delete db rel asked) (outer.At i (inner.At j edit))
  deleted room asked edit takes same rel_at ready = let made = row_moved room (less_row asked) edit takes same rel_at ready in record { fits = made.fits; makes = made.makes }

  -- one database changed alike
  pub changed_database : (f g : DatabaseValue → DatabaseValue) → f (plain_database shown) ≡ g (plain_database shown) → at_place i f (plain_databases ds) ≡ at_database db g (plain_databases ds)
  changed_database f g e =
      changed_alike f g (plain_databases ds) i (database_value [] []) (subst (λ (d : DatabaseValue). f d ≡ g d) (sym database_is) e)
      ∙ sym (changed_at text_order database_name db g (plain_databases ds) i h.names.ascend at)

  pub the_database : IsDatabase (plain_database shown)
  the_database = subst IsDatabase database_is (each_at IsDatabase (plain_databases ds) i (database_value [] []) at.within h.databases)

  pub shown_at : database_state_at i ds ≡ shown
  shown_at = same_at ds i _ shown (within_seen ds i at.within) ∙ sym is

  pub relation_dropped : (room : ℕ) → IsPlaceOf relation_name rel (plain_database shown).relations j → Makes ds room (DropRelation db rel) (outer.At i (inner.Out j))
  relation_dropped room rel_at =
      let there : j < length shown.relations = rw (length-map shown.relations plain_relation) at rel_at.within in
      record {
        fits = (within_seen ds i at.within, subst (λ (d : DatabaseState). j < length d.relations) (sym shown_at) there);
        makes = changed_database (database_edited (inner.Out j)) (with_relations (without rel))
            (ap (database_value (plain_database shown).name) (sym (removed_at text_order relation_name rel (plain_database shown).relations j the_database.names.ascend rel_at)));
      }

  -- one relation edited
  relation_is : IsPlaceOf relation_name rel (plain_database shown).relations j → (r : RelationState) → slice_index_or shown.relations j r ≡ r → relation_at j (plain_database shown) ≡ (plain_relation r)
  relation_is rel_at r e =
      let there : j < length shown.relations = rw (length-map shown.relations plain_relation) at rel_at.within in
      at_seen plain_relation shown.relations j r (relation_value [] [] []) there ∙ ap plain_relation e

  pub relation_changed : (room : ℕ) (edit : RelationEdit) (g : RelationValue → RelationValue) (r : RelationState) → IsPlaceOf relation_name rel (plain_database shown).relations j → slice_index_or shown.relations j r ≡ r
      → relation_edited edit (plain_relation r) ≡ g (plain_relation r) → FitsRelation edit r
      → record { fits : Fits (outer.At i (inner.At j edit)) ds room; makes : edited (outer.At i (inner.At j edit)) (plain_databases ds) ≡ at_relation db rel g (plain_databases ds) }
  relation_changed room edit g r rel_at r_is same asked =
      let there : j < length shown.relations = rw (length-map shown.relations plain_relation) at rel_at.within in
      let rel_there : IsPlaceOf relation_name rel (database_at i (plain_databases ds)).relations j = subst (λ (d : DatabaseValue). IsPlaceOf relation_name rel d.relations j) (sym database_is) rel_at in
      let alike : with_relation_at j (relation_edited edit) (plain_database shown) ≡ with_relation_at j g (plain_database shown)
      = ap (database_value (plain_database shown).name) (changed_alike (relation_edited edit) g (plain_database shown).relations j (relation_value [] [] []) (subst (λ (x : RelationValue). relation_edited edit x ≡ g x) (sym (relation_is rel_at r r_is)) same)) in
      record {
        fits = (
          within_seen ds i at.within,
          subst (λ (d : DatabaseState). (j < length d.relations) × FitsRelation edit (relation_state_at j d)) (sym shown_at)
              (there, subst (FitsRelation edit) (sym (same_at shown.relations j no_relation_state r there ∙ r_is)) asked),
        );
        makes = changed_alike (with_relation_at j (relation_edited edit)) (with_relation_at j g) (plain_databases ds) i (database_value [] []) (subst (λ (d : DatabaseValue). with_relation_at j (relation_edited edit) d ≡ with_relation_at j g d) (sym database_is) alike)
            ∙ sym (changed_there (plain_databases ds) db rel i j h at rel_there g);
      }

  pub attribute_added : (room : ℕ) (name fill : Text) (r : RelationState) (edit : RelationEdit) → IsPlaceOf relation_name rel (plain_database shown).relations j → slice_index_or shown.relations j r ≡ r
      → relation_edited edit (plain_relation r) ≡ with_attribute name fill (plain_relation r) → FitsRelation edit r → Makes ds room (AddAttribute db rel name fill) (outer.At i (inner.At j edit))
  attribute_added room name fill r edit rel_at r_is same asked =
      let made = relation_changed room edit (with_attribute name fill) r rel_at r_is same asked in
      record { fits = made.fits; makes = made.makes }

  -- the relation that stands is the one at the place
  relation_same : (d : DatabaseValue) (r' : RelationValue) (r : RelationState) → database_of (plain_databases ds) db ≡ Some d → relation_in rel d ≡ Some r' → IsPlaceOf relation_name rel (plain_database shown).relations j → slice_index_or shown.relations j r ≡ r → r' ≡ plain_relation r
  relation_same d r' r there found rel_at r_is =
      let same : d ≡ plain_database shown = same_some d (plain_database shown) (sym there ∙ found_at text_order database_name db (plain_databases ds) i (database_value [] []) h.names.ascend at ∙ ap Some database_is) in
      let here : relation_in rel (plain_database shown) ≡ Some r' = subst (λ (x : DatabaseValue). relation_in rel x ≡ Some r') same found in
      same_some r' (plain_relation r) (sym here ∙ found_at text_order relation_name rel (plain_database shown).relations j (relation_value [] [] []) the_database.names.ascend rel_at ∙ ap Some (relation_is rel_at r r_is))

  pub name_stands : (name : Text) (d : DatabaseValue) (r' : RelationValue) (r : RelationState) → database_of (plain_databases ds) db ≡ Some d → relation_in rel d ≡ Some r' → IsPlaceOf relation_name rel (plain_database shown).relations j → slice_index_or shown.relations j r ≡ r
      → is_in name r'.attributes ≡ true → is_in name r.attributes ≡ true
  name_stands name d r' r there found rel_at r_is any = subst (λ (x : RelationValue). is_in name x.attributes ≡ true) (relation_same d r' r there found rel_at r_is) any

  pub attribute_renamed : (room : ℕ) (name to : Text) (r : RelationState) (attributes : Row) → IsPlaceOf relation_name rel (plain_database shown).relations j → slice_index_or shown.relations j r ≡ r
      → attributes ≡ slice_set r.attributes (position_or_len (text_eq name) r.attributes) to → Makes ds room (RenameAttribute db rel name to) (outer.At i (inner.At j (Header attributes)))
  attribute_renamed room name to r attributes rel_at r_is is =
      let made = relation_changed room (Header attributes) (renamed_attribute name to) r rel_at r_is (ap (λ (names : Row). relation_value r.name names (plain_relation r).rows) is) (tt, tt) in
      record { fits = made.fits; makes = made.makes }

  pub attribute_dropped : (room : ℕ) (name : Text) (place : ℕ) (r : RelationState) (edit : RelationEdit) → IsPlaceOf relation_name rel (plain_database shown).relations j → slice_index_or shown.relations j r ≡ r
      → is_in name r.attributes ≡ true → Some place ≡ position (text_eq name) r.attributes
      → relation_edited edit (plain_relation r) ≡ relation_value r.name (remove r.attributes place) (map (λ (row : Row). remove row place) (plain_relation r).rows) → FitsRelation edit r → Makes ds room (DropAttribute db rel name) (outer.At i (inner.At j edit))
  attribute_dropped room name place r edit rel_at r_is any first same asked =
      let is : place ≡ position_or_len (text_eq name) r.attributes = same_some place (position_or_len (text_eq name) r.attributes) (first ∙ position_there (text_eq name) r.attributes any) in
      let made = relation_changed room edit (less_attribute name) r rel_at r_is (same ∙ ap (λ (n : ℕ). relation_value r.name (remove r.attributes n) (map (λ (row : Row). remove row n) (plain_relation r).rows)) is) asked in
      record { fits = made.fits; makes = made.makes }

  -- one relation more
  pub relation_created : (room : ℕ) (attributes : Row) (r : RelationState) → plain_database new ≡ plain_database shown → 0 < new.room → IsPlaceFor text_cmp relation_name rel (plain_database shown).relations j → plain_relation r ≡ relation_value rel attributes []
      → Makes (slice_set ds i new) room (CreateRelation db rel attributes) (outer.At i (inner.Put j r))
  relation_created room attributes r same some for_place r_is =
      let within = within_seen ds i at.within in
      let put : database_state_at i (slice_set ds i new) ≡ new = set_there ds i new _ within in
      let inside : j ≤ length (plain_database new).relations = subst (λ (d : DatabaseValue). j ≤ length d.relations) (sym same) for_place.within in
      let there : j ≤ length new.relations = rw (length-map new.relations plain_relation) at inside in
      let rs = (plain_database shown).relations in
      let moved : at_place i (database_edited (inner.Put j r)) (plain_databases ds) ≡ at_database db (with_relations (placed (relation_value rel attributes []))) (plain_databases ds)
      = changed_database (database_edited (inner.Put j r)) (with_relations (placed (relation_value rel attributes [])))
      (ap (database_value (plain_database shown).name) (ap (insert rs j) r_is ∙ sym (placed_for text_order relation_name (relation_value rel attributes []) rs j for_place))) in
      record {
        fits = (rw (length_set ds i new) within, subst (λ (d : DatabaseState). (j ≤ length d.relations) × (0 < d.room)) (sym put) (there, some));
        makes = subst (λ (c : CatalogueValue). at_place i (database_edited (inner.Put j r)) c ≡ at_database db (with_relations (placed (relation_value rel attributes []))) c) (sym (still_all same)) moved;
      }

  pub relation_not_found : (d : DatabaseValue) → database_of (plain_databases ds) db ≡ Some d → relation_in rel d ≡ None → true ≡ list_any (λ (x : RelationValue). text_eq rel x.name) (plain_database shown).relations → ⊥
  relation_not_found d there none any =
      let same : d ≡ plain_database shown = same_some d (plain_database shown) (sym there ∙ found_at text_order database_name db (plain_databases ds) i (database_value [] []) h.names.ascend at ∙ ap Some database_is) in
      not_found (λ (x : RelationValue). text_eq rel x.name) (plain_database shown).relations (subst (λ (x : DatabaseValue). relation_in rel x ≡ None) same none) any

pub header_of : (attributes : Row) → IsTrue (nat_le 1 (length attributes)) → length attributes ≤ most_attributes → first_repeated attributes ≡ None → IsHeader attributes
header_of attributes some few once = record { some = at_least some; few = few; distinct = none_repeated attributes once }
  where
    at_least : IsTrue (nat_le 1 (length attributes)) → 1 ≤ length attributes
    at_least h = grind (arith, nat_tests)

pub remove_beyond : {A : Type 0} (xs : List A) (i : ℕ) → length xs ≤ i → remove xs i ≡ xs
remove_beyond [] zero h = refl
remove_beyond [] (suc i) h = refl
remove_beyond (x ∷ xs) zero h = absurd (omega (arith, h))
remove_beyond (x ∷ xs) (suc i) h = ap (λ ys. x ∷ ys) (remove_beyond xs i (omega (arith, h)))

-- rows that were read by reference, changed one by one
pub mapped_rows : (f : Row → Row) (shown : List (Bor Row)) (rows : List Row) → map (λ (row : Bor Row). row.now) shown ≡ rows → map (λ (row : Bor Row). f row.now) shown ≡ map f rows
mapped_rows f shown rows e = through shown ∙ ap (map f) e
  where
    through : (xs : List (Bor Row)) → map (λ (row : Bor Row). f row.now) xs ≡ map f (map (λ (row : Bor Row). row.now) xs)
    through [] = refl
    through (x ∷ xs) = ap (λ (ys : List Row). f x.now ∷ ys) (through xs)
