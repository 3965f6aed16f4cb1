-- A relation of a sound catalogue that has names as values, and its entries.
use Rattle.std.proofs.Common.{◌≡◌, ◌∙◌, Bool, true, false, cond, List, [], ◌∷◌, Option, Some, None, map, refl, sym, ap, subst}
use Rattle.std.specs.Prelude.{option_and_then, find}
use Rattle.std.specs.List.{AllByRecursion}
use Rattle.std.proofs.lemmas.List.{map-append, length-map}
use Rattle.ss_text.specs.Texts.{Text, Row, text_eq}
use Rattle.schema_model.specs.Catalogue.{RelationValue, DatabaseValue, CatalogueValue, database_of, relation_in, relation_of}
use Rattle.schema_model.specs.Sound.{IsRelation, IsDatabase, IsSound}
use Rattle.view_def.specs.Query.{Query}
use Rattle.flow_law.specs.Facts.{Fact}
use Rattle.view_meaning.specs.Meaning.{facts}
use Rattle.view_meaning.specs.Orders.{text_under, row_under}
use Rattle.round_trip_law.specs.Forms.{Named, Parts, header, from_values}
use Rattle.round_trip_law.specs.Law.{HasParts}
use Rattle.round_trip_law.proofs.Entries.{Entry, AreFull, entry_row, Makes, facts_are}
use Rattle.round_trip_law.proofs.SourceLemmas.{among, row_entry, values_said, values_named}

-- ---- it fits
found_all : {A : Type 0} (P : A → Type 0) (test : A → Bool) (xs : List A) (x : A) → AllByRecursion P xs → find test xs ≡ Some x → P x
found_all P test [] x all found = absurd (cc)
found_all P test (y ∷ ys) x all found = by_test (test y) found (found_all P test ys x all.1)
  where
    by_test : (b : Bool) → cond b (Some y) (find test ys) ≡ Some x → (find test ys ≡ Some x → P x) → P x
    by_test true h rest = let same : y ≡ x = cc in subst P same all.0
    by_test false h rest = rest h

found_both : {A B : Type 0} (o : Option A) (f : A → Option B) (y : B) → option_and_then f o ≡ Some y → (x : A) × (o ≡ Some x) × (f x ≡ Some y)
found_both None f y h = absurd (cc)
found_both (Some x) f y h = (x, refl, h)

pub relation_fits : (c : CatalogueValue) (db rel : Text) (r : RelationValue) → IsSound c → relation_of c db rel ≡ Some r → IsRelation r
relation_fits c db rel r sound there =
    let found = found_both (database_of c db) (relation_in rel) r there in
    let database : IsDatabase found.0 = found_all IsDatabase (λ (d : DatabaseValue). text_eq db d.name) c found.0 sound.databases found.1 in
    found_all IsRelation (λ (r : RelationValue). text_eq rel r.name) (found.0).relations r database.relations found.2

-- ---- its entries
module _ (p : Parts) where
  pub full_rows : (attributes : Row) (rows : List Row) → AreFull p (map (row_entry p attributes) rows)
  full_rows attributes [] = tt
  full_rows attributes (row ∷ rows) = (length-map p.keys (text_under attributes row), full_rows attributes rows)

  pub entry_rows : (attributes : Row) (rows : List Row) → map entry_row (map (row_entry p attributes) rows) ≡ map (row_under (header p) attributes) rows
  entry_rows attributes [] = refl
  entry_rows attributes (row ∷ rows) = λ i. sym (map-append (text_under attributes row) p.keys (p.name ∷ p.value ∷ [])) i ∷ entry_rows attributes rows i

  -- the facts of a view over it
  module _ (at : Named) (c : CatalogueValue) (r : RelationValue) (has : HasParts p at c r) where
    pub row_facts : (q : Query) (fact : Entry → Fact) → Makes (from_values p at) q fact → facts c q ≡ map fact (map (row_entry p r.attributes) r.rows)
    row_facts q fact makes =
        let fits = relation_fits c at.db at.rel r has.sound has.there in
        facts_are c (from_values p at) q fact makes (values_named p at c) ∙ ap (map fact) (values_said p at c r has.there fits.fits (among p r.attributes has.parts))
