-- What ranges over a relation that places name weighs what the flat rows of all relations do.
use Rattle.std.proofs.Common.{◌≡◌, ℕ, List, ◌∷◌, map, Bool, true, false, cond, refl, ap, sym, ◌∙◌, Option, Some}
use Rattle.std.specs.Prelude.{flat_map}
use Rattle.std.specs.Option.{option_and_then}
use Rattle.ss_text.specs.Texts.{Text, Row, text_eq}
use Rattle.schema_model.specs.Catalogue.{RelationValue, DatabaseValue, CatalogueValue, database_of, relation_in}
use Rattle.schema_model.specs.Sound.{IsRelation, IsDatabase, IsSound}
use Rattle.plan_law.specs.Kinds.{Place}
use Rattle.plan_law.specs.Kinds.place
use Rattle.view_meaning.specs.Elements.{Element, Valuation, place_text, database_at, relation_at, ◌>>=◌}
use Rattle.schema_delta.specs.Flat.{keeps}
use Rattle.plan_law.proofs.Weights.{weigh-cond, cond-none}
use Rattle.plan_law.proofs.Sums.{apart_ascending, weigh-bind, weigh-bind_then, weigh-found}
use Rattle.plan_law.proofs.FlatRows.{kept_databases, kept_relations, of_relations}
use Rattle.operator_law.specs.Bags.{weigh}
use Rattle.operator_law.proofs.Weights.{weigh-filter, weigh-map, weigh-flat_map, weigh-same_where}

-- a constant place keeps what it names
pub keep_cond : (v : Valuation) (p : Place) (s n : Text) (w : ℕ) → place_text v p ≡ Some s → cond (keeps p n) (cond (text_eq s n) w 0) 0 ≡ cond (text_eq s n) w 0
keep_cond v (place.Var k) s n w e = refl
keep_cond v (place.Fixed t) s n w e = let d : t ≡ s = cc in rw d (one (text_eq s n))
  where
    one : (b : Bool) → cond b (cond b w 0) 0 ≡ cond b w 0
    one true = refl
    one false = refl

module _ (c : CatalogueValue) (sound : IsSound c) (v : Valuation) (p : Place) (s : Text) (p_is : place_text v p ≡ Some s) where
  pub databases_step : {Y : Type 0} (L : Y → ℕ) (els : DatabaseValue → List Y) → weigh L (database_at c v p >>= els) ≡ weigh (λ (d : DatabaseValue). cond (text_eq s d.name) (weigh L (els d)) 0) c
  databases_step L els =
      ap (λ (o : Option Text). weigh L (option_and_then (database_of c) o >>= els)) p_is
      ∙ weigh-bind L els (database_of c s)
      ∙ weigh-found (λ (d : DatabaseValue). d.name) s (λ d. weigh L (els d)) c (apart_ascending _ sound.names.ascend)

  module _ (r : Place) (t : Text) (r_is : place_text v r ≡ Some t) where
    relations_found : (L : Element → ℕ) (els : RelationValue → List Element) → weigh L (relation_at c v p r >>= els) ≡ weigh (λ (d : DatabaseValue). cond (text_eq s d.name) (weigh L (relation_in t d >>= els)) 0) c
    relations_found L els =
        ap (λ (o : Option Text). weigh L (option_and_then (λ d. option_and_then (λ name. relation_in name d) o) (database_at c v p) >>= els)) r_is
        ∙ ap (λ (o : Option Text). weigh L (option_and_then (λ d. relation_in t d) (option_and_then (database_of c) o) >>= els)) p_is
        ∙ weigh-bind_then L els (λ d. relation_in t d) (database_of c s)
        ∙ weigh-found (λ (d : DatabaseValue). d.name) s (λ d. weigh L (relation_in t d >>= els)) c (apart_ascending _ sound.names.ascend)

    pub relations_step : (R : Row → ℕ) (L : Element → ℕ) (rows_of : RelationValue → List Row) (els : RelationValue → List Element)
        → ((d : DatabaseValue) (rel : RelationValue) → IsRelation rel → weigh (λ row. R (d.name ∷ rel.name ∷ row)) (rows_of rel) ≡ cond (text_eq s d.name) (cond (text_eq t rel.name) (weigh L (els rel)) 0) 0)
        → weigh L (relation_at c v p r >>= els) ≡ weigh R (of_relations c p r rows_of)
    relations_step R L rows_of els core =
        relations_found L els
        ∙ sym (
        weigh-flat_map R rows_in (kept_databases p c)
        ∙ weigh-filter (λ d. weigh R (rows_in d)) (λ (d : DatabaseValue). keeps p d.name) c
        ∙ weigh-same_where IsDatabase _ _ each_database c sound.databases)
      where
        rows_in : DatabaseValue → List Row
        rows_in = λ (d : DatabaseValue). flat_map (λ (rel : RelationValue). map (λ row. d.name ∷ rel.name ∷ row) (rows_of rel)) (kept_relations r d)

        swapped : (b : Bool) (k : ℕ → ℕ) (w : ℕ) → k 0 ≡ 0 → k w ≡ w → k (cond b w 0) ≡ cond b w 0
        swapped true k w none e = e
        swapped false k w none e = none

        each_relation : (d : DatabaseValue) (rel : RelationValue) → IsRelation rel → cond (keeps r rel.name) (weigh R (map (λ row. d.name ∷ rel.name ∷ row) (rows_of rel))) 0 ≡ cond (text_eq s d.name) (cond (text_eq t rel.name) (weigh L (els rel)) 0) 0
        each_relation d rel ok =
            ap (λ n. cond (keeps r rel.name) n 0) (weigh-map R (λ row. d.name ∷ rel.name ∷ row) (rows_of rel) ∙ core d rel ok)
            ∙ swapped (text_eq s d.name) (λ n. cond (keeps r rel.name) n 0) (cond (text_eq t rel.name) (weigh L (els rel)) 0) (cond-none (keeps r rel.name)) (keep_cond v r t rel.name (weigh L (els rel)) r_is)

        each_database : (d : DatabaseValue) → IsDatabase d → cond (keeps p d.name) (weigh R (rows_in d)) 0 ≡ cond (text_eq s d.name) (weigh L (relation_in t d >>= els)) 0
        each_database d ok =
            ap (λ n. cond (keeps p d.name) n 0) (
            weigh-flat_map R (λ (rel : RelationValue). map (λ row. d.name ∷ rel.name ∷ row) (rows_of rel)) (kept_relations r d)
            ∙ weigh-filter (λ (rel : RelationValue). weigh R (map (λ row. d.name ∷ rel.name ∷ row) (rows_of rel))) (λ (rel : RelationValue). keeps r rel.name) d.relations
            ∙ weigh-same_where IsRelation _ _ (each_relation d) d.relations ok.relations
            ∙ weigh-cond (text_eq s d.name) (λ (rel : RelationValue). cond (text_eq t rel.name) (weigh L (els rel)) 0) d.relations)
            ∙ keep_cond v p s d.name (weigh (λ (rel : RelationValue). cond (text_eq t rel.name) (weigh L (els rel)) 0) d.relations) p_is
            ∙ ap (λ n. cond (text_eq s d.name) n 0) (sym (
            weigh-bind L els (relation_in t d)
            ∙ weigh-found (λ (rel : RelationValue). rel.name) t (λ rel. weigh L (els rel)) d.relations (apart_ascending _ ok.names.ascend)))
