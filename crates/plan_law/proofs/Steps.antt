-- One declaration: what its elements weigh is what its flat rows do.
use Rattle.std.proofs.Common.{◌≡◌, ◌⊎◌, inl, inr, subst, ℕ, suc, zero, List, [], ◌∷◌, ◌++◌, length, map, filter, Bool, true, false, not, cond, refl, arith, ap, sym, ◌∙◌, Option, Some}
use Rattle.std.specs.Prelude.{option_to_list, flat_map, zip, filter_map}
use Rattle.std.specs.List.{slice_get}
use Rattle.std.specs.Option.{option_and_then, option_map_or}
use Rattle.ss_text.specs.Texts.{Text, text_eq}
use Rattle.schema_model.specs.Catalogue.{RelationValue, DatabaseValue, CatalogueValue}
use Rattle.schema_model.specs.Sound.{IsRelation, IsSound}
use Rattle.plan_law.specs.Kinds.{Place, Term, Range}
use Rattle.plan_law.specs.Kinds.term
use Rattle.plan_law.specs.Kinds.range
use Rattle.view_def.specs.Query.{Query}
use Rattle.view_def.specs.Profile.{lists_tuples}
use Rattle.view_meaning.specs.Elements.{Element, A_text, Valuation, place_text, text_of, cell_under, relation_at, elements, ◌>>=◌}
use Rattle.view_meaning.specs.Terms.{Reading, value_of}
use Rattle.view_meaning.specs.Meaning.{term_of}
use Rattle.schema_delta.specs.Flat.{keeps, flat}
use Rattle.plan_law.specs.Columns.{Column, Combo, spec_of, header, columns, read, is_consistent}
use Rattle.plan_law.proofs.Weights.{weigh-filter_map, weigh-cond, cond-none}
use Rattle.plan_law.proofs.Columns.{Has, has_right, has_either}
use Rattle.plan_law.proofs.Held.{Held, Stands, IsColumn, value_more}
use Rattle.plan_law.proofs.Agree.{left, left-own, left-place, IsWeight}
use Rattle.plan_law.proofs.Sums.{apart_distinct, weigh-field}
use Rattle.plan_law.proofs.Relations.{keep_cond, databases_step, relations_step}
use Rattle.plan_law.proofs.FlatForm.{flat_weighs}
use Rattle.plan_law.proofs.FlatRows.{kept_databases, fields, value_rows, attribute_rows}
use Rattle.operator_law.specs.Bags.{weigh}
use Rattle.operator_law.proofs.Weights.{weigh-same, weigh-filter, weigh-map, weigh-flat_map}

pub last_get : (v : Valuation) (e : Element) (k : ℕ) → length v ≡ k → slice_get (v ++ e ∷ []) k ≡ Some e
last_get [] e zero h = refl
last_get [] e (suc k) h = absurd (omega arith)
last_get (a ∷ v) e zero h = absurd (omega arith)
last_get (a ∷ v) e (suc k) h = last_get v e k (omega arith)

-- a place whose text is known
pub record Placed (q : Query) (v : Valuation) (p : Place) : Type 0 where
  pub text : Text
  pub value : value_of v (term_of p) ≡ Some text
  pub is : place_text v p ≡ Some text
  pub column : IsColumn q (term_of p)

abbrev pub Fine : Query → Combo → Type 0
Fine q o = (t : Term) (s : Text) → Has o (t, s) → IsColumn q t

pub fine_none : (q : Query) → Fine q []
fine_none q t s m = absurd m

pub fine_more : (q : Query) (t : Term) (n : Text) (o : Combo) → IsColumn q t → Fine q o → Fine q ((t, n) ∷ o)
fine_more q t n o h rest u s (inl e) = subst (IsColumn q) (ap (λ (c : Column). c.0) e) h
fine_more q t n o h rest u s (inr m) = rest u s m

pub fine_append : (q : Query) (o p : Combo) → Fine q o → Fine q p → Fine q (o ++ p)
fine_append q o p a b t s m = one (has_either o p (t, s) m)
  where
    one : Has o (t, s) ⊎ Has p (t, s) → IsColumn q t
    one (inl m) = a t s m
    one (inr m) = b t s m

-- the combinations that end with the flat rows of further declarations
abbrev pub combined : Combo → List (List Combo) → List Combo
combined x [] = x ∷ []
combined x (ys ∷ more) = flat_map (λ y. combined (x ++ y) more) ys

module _ (c : CatalogueValue) (sound : IsSound c) (q : Query) (g : Reading → ℕ) (weight : IsWeight q g) where
  abbrev pub right : Combo → List (List Combo) → ℕ
  right x more = weigh (λ y. cond (is_consistent q y) (g (read q y)) 0) (combined x more)

  module _ (v : Valuation) (x : Combo) (k : ℕ) (size : length v ≡ k) (ds : List Range) (more : List (List Combo)) where
    -- the further declarations, after an element and its columns
    abbrev pub Next : Range → Type 0
    Next d = (e : Element) (o : Combo) → Stands q (v ++ e ∷ []) (x ++ o) k d → Fine q o → left c g (v ++ e ∷ []) (x ++ o) ds ≡ right (x ++ o) more

    abbrev pub Step : Range → Type 0
    Step d = weigh (λ e. left c g (v ++ e ∷ []) x ds) (elements c v d) ≡ weigh (λ o. right (x ++ o) more) (columns c q k d)

    is_column : (d : Range) → slice_get q.decls k ≡ Some d → lists_tuples d ≡ false → IsColumn q (term.Var k)
    is_column d at e = ap (λ (o : Option Range). option_map_or (λ d. not (lists_tuples d)) o false) at ∙ ap not e

    text_held : (s : Text) (o : Combo) → Has {X = Column} o (term.Var k, s) → Held (v ++ A_text s ∷ []) (x ++ o) (term.Var k)
    text_held s o m = record { text = s; value = ap (option_and_then text_of) (last_get v (A_text s) k size); column = has_right x o (term.Var k, s) m }

    abbrev own : Text → Combo
    own s = (term.Var k, s) ∷ []

    text_own : (s : Text) → left c g (v ++ A_text s ∷ []) (x ++ own s) ds ≡ left c g (v ++ A_text s ∷ []) x ds
    text_own s = left-own c g (v ++ A_text s ∷ []) x (own s) ds one
      where
        one : (t : Term) (r : Text) → Has (own s) (t, r) → value_of (v ++ A_text s ∷ []) t ≡ Some r
        one t r (inl e) =
            let a = ap (λ (c : Column). c.0) e in
            let b = ap (λ (c : Column). c.1) e in
            rw (← a, ← b) (ap (option_and_then text_of) (last_get v (A_text s) k size))
        one t r (inr m) = absurd m

    place_front : (p : Place) (P : Placed q v p) (e : Element) (n : Text) (o : Combo) → left c g (v ++ e ∷ []) (x ++ (term_of p, n) ∷ o) ds ≡ cond (text_eq P.text n) (left c g (v ++ e ∷ []) (x ++ o) ds) 0
    place_front p P e n o = left-place c g (v ++ e ∷ []) x o (term_of p) P.text n ds (value_more v (e ∷ []) (term_of p) P.text P.value)

    -- the columns of two places in front
    pub places_front : (p r : Place) (P : Placed q v p) (R : Placed q v r) (e : Element) (n m : Text) (o : Combo) → left c g (v ++ e ∷ []) (x ++ (term_of p, n) ∷ (term_of r, m) ∷ o) ds ≡ cond (text_eq P.text n) (cond (text_eq R.text m) (left c g (v ++ e ∷ []) (x ++ o) ds) 0) 0
    places_front p r P R e n m o = place_front p P e n ((term_of r, m) ∷ o) ∙ ap (λ w. cond (text_eq P.text n) w 0) (place_front r R e m o)

    pub step_databases : slice_get q.decls k ≡ Some range.Databases → Next range.Databases → Step range.Databases
    step_databases at next =
        weigh-map _ (λ (d : DatabaseValue). A_text d.name) c
        ∙ weigh-same _ _ (λ (d : DatabaseValue). sym (text_own d.name) ∙ next (A_text d.name) (own d.name) (text_held d.name (own d.name) (inl refl)) (fine_more q (term.Var k) d.name [] (is_column range.Databases at refl) (fine_none q))) c
        ∙ sym (weigh-map _ (zip (header q k range.Databases)) (flat c (spec_of q k range.Databases)) ∙ flat_weighs c sound (spec_of q k range.Databases) _ ∙ weigh-map _ (λ (d : DatabaseValue). d.name ∷ []) c)

    pub step_relations : (p : Place) → slice_get q.decls k ≡ Some (range.Relations p) → Placed q v p → Next (range.Relations p) → Step (range.Relations p)
    step_relations p at P next =
        databases_step c sound v p P.text P.is _ (λ (d : DatabaseValue). map (λ (r : RelationValue). A_text r.name) d.relations)
        ∙ weigh-same _ _ one c
        ∙ sym (
        weigh-map _ (zip (header q k (range.Relations p))) (flat c (spec_of q k (range.Relations p))) ∙ flat_weighs c sound (spec_of q k (range.Relations p)) _
        ∙ weigh-flat_map _ (λ (d : DatabaseValue). map (λ (r : RelationValue). d.name ∷ r.name ∷ []) d.relations) (kept_databases p c)
        ∙ weigh-filter _ (λ (d : DatabaseValue). keeps p d.name) c)
      where
        columns_of : DatabaseValue → RelationValue → Combo
        columns_of = λ (d : DatabaseValue) (r : RelationValue). (term_of p, d.name) ∷ own r.name

        each : (d : DatabaseValue) (r : RelationValue) → right (x ++ columns_of d r) more ≡ cond (text_eq P.text d.name) (left c g (v ++ A_text r.name ∷ []) x ds) 0
        each d r =
            sym (next (A_text r.name) (columns_of d r) (text_held r.name (columns_of d r) (inr (inl refl))) (fine_more q (term_of p) d.name (own r.name) P.column (fine_more q (term.Var k) r.name [] (is_column (range.Relations p) at refl) (fine_none q))))
            ∙ place_front p P (A_text r.name) d.name (own r.name)
            ∙ ap (λ w. cond (text_eq P.text d.name) w 0) (text_own r.name)

        one : (d : DatabaseValue) → cond (text_eq P.text d.name) (weigh (λ e. left c g (v ++ e ∷ []) x ds) (map (λ (r : RelationValue). A_text r.name) d.relations)) 0
            ≡ cond (keeps p d.name) (weigh (λ row. right (x ++ zip (header q k (range.Relations p)) row) more) (map (λ (r : RelationValue). d.name ∷ r.name ∷ []) d.relations)) 0
        one d =
            ap (λ w. cond (text_eq P.text d.name) w 0) (weigh-map _ (λ (r : RelationValue). A_text r.name) d.relations)
            ∙ sym (keep_cond v p P.text d.name (weigh (λ (r : RelationValue). left c g (v ++ A_text r.name ∷ []) x ds) d.relations) P.is)
            ∙ ap (λ w. cond (keeps p d.name) w 0) (sym (
            weigh-map _ (λ (r : RelationValue). d.name ∷ r.name ∷ []) d.relations
            ∙ weigh-same _ _ (each d) d.relations
            ∙ weigh-cond (text_eq P.text d.name) (λ (r : RelationValue). left c g (v ++ A_text r.name ∷ []) x ds) d.relations))

    -- a declaration over a relation, by what one relation gives
    module _ (p r : Place) (P : Placed q v p) (Q : Placed q v r) where
      abbrev pub in_relation : DatabaseValue → RelationValue → ℕ → ℕ
      in_relation d rel w = cond (text_eq P.text d.name) (cond (text_eq Q.text rel.name) w 0) 0

      pub weigh-in : {X : Type 0} (d : DatabaseValue) (rel : RelationValue) (f : X → ℕ) (xs : List X) → weigh (λ x. in_relation d rel (f x)) xs ≡ in_relation d rel (weigh f xs)
      weigh-in d rel f xs =
          weigh-cond (text_eq P.text d.name) (λ x. cond (text_eq Q.text rel.name) (f x) 0) xs
          ∙ ap (λ w. cond (text_eq P.text d.name) w 0) (weigh-cond (text_eq Q.text rel.name) f xs)

      pub step_attributes : slice_get q.decls k ≡ Some (range.Attributes p r) → Next (range.Attributes p r) → Step (range.Attributes p r)
      step_attributes at next =
          relations_step c sound v p P.text P.is r Q.text Q.is (λ row. right (x ++ zip (header q k (range.Attributes p r)) row) more) (λ e. left c g (v ++ e ∷ []) x ds) attribute_rows (λ (rel : RelationValue). map A_text rel.attributes)
          (λ d rel ok. core d rel)
          ∙ sym (weigh-map _ (zip (header q k (range.Attributes p r))) (flat c (spec_of q k (range.Attributes p r))) ∙ flat_weighs c sound (spec_of q k (range.Attributes p r)) _)
        where
          each : (d : DatabaseValue) (rel : RelationValue) (a : Text) → right (x ++ (term_of p, d.name) ∷ (term_of r, rel.name) ∷ own a) more ≡ in_relation d rel (left c g (v ++ A_text a ∷ []) x ds)
          each d rel a =
              let o : Combo = (term_of p, d.name) ∷ (term_of r, rel.name) ∷ own a in
              sym (next (A_text a) o (text_held a o (inr (inr (inl refl)))) (fine_more q (term_of p) d.name ((term_of r, rel.name) ∷ own a) P.column (fine_more q (term_of r) rel.name (own a) Q.column (fine_more q (term.Var k) a [] (is_column (range.Attributes p r) at refl) (fine_none q)))))
              ∙ places_front p r P Q (A_text a) d.name rel.name (own a)
              ∙ ap (in_relation d rel) (text_own a)

          core : (d : DatabaseValue) (rel : RelationValue) → weigh (λ row. right (x ++ zip (header q k (range.Attributes p r)) (d.name ∷ rel.name ∷ row)) more) (attribute_rows rel) ≡ in_relation d rel (weigh (λ e. left c g (v ++ e ∷ []) x ds) (map A_text rel.attributes))
          core d rel =
              weigh-map _ (λ (a : Text). a ∷ []) rel.attributes
              ∙ weigh-same _ _ (each d rel) rel.attributes
              ∙ weigh-in d rel (λ a. left c g (v ++ A_text a ∷ []) x ds) rel.attributes
              ∙ ap (in_relation d rel) (sym (weigh-map _ A_text rel.attributes))

      pub step_values : (a : Place) → Placed q v a → slice_get q.decls k ≡ Some (range.Values p r a) → Next (range.Values p r a) → Step (range.Values p r a)
      step_values a A at next =
          ap (λ (o : Option Text). weigh (λ e. left c g (v ++ e ∷ []) x ds) (relation_at c v p r >>= (λ (rel : RelationValue). o >>= (λ name. map A_text (filter_map (cell_under rel.attributes name) rel.rows))))) A.is
          ∙ relations_step c sound v p P.text P.is r Q.text Q.is (λ row. right (x ++ zip (header q k (range.Values p r a)) row) more) (λ e. left c g (v ++ e ∷ []) x ds) (value_rows a) (λ (rel : RelationValue). map A_text (filter_map (cell_under rel.attributes A.text) rel.rows))
          core
          ∙ sym (weigh-map _ (zip (header q k (range.Values p r a))) (flat c (spec_of q k (range.Values p r a))) ∙ flat_weighs c sound (spec_of q k (range.Values p r a)) _)
        where
          each : (d : DatabaseValue) (rel : RelationValue) (f : Text × Text) → cond (keeps a f.0) (right (x ++ (term_of p, d.name) ∷ (term_of r, rel.name) ∷ (term_of a, f.0) ∷ own f.1) more) 0 ≡ in_relation d rel (cond (text_eq A.text f.0) (left c g (v ++ A_text f.1 ∷ []) x ds) 0)
          each d rel f =
              let o : Combo = (term_of p, d.name) ∷ (term_of r, rel.name) ∷ (term_of a, f.0) ∷ own f.1 in
              ap (λ w. cond (keeps a f.0) w 0) (
              sym (next (A_text f.1) o (text_held f.1 o (inr (inr (inr (inl refl))))) (fine_more q (term_of p) d.name ((term_of r, rel.name) ∷ (term_of a, f.0) ∷ own f.1) P.column (fine_more q (term_of r) rel.name ((term_of a, f.0) ∷ own f.1) Q.column (fine_more q (term_of a) f.0 (own f.1) A.column (fine_more q (term.Var k) f.1 [] (is_column (range.Values p r a) at refl) (fine_none q))))))
              ∙ places_front p r P Q (A_text f.1) d.name rel.name ((term_of a, f.0) ∷ own f.1)
              ∙ ap (in_relation d rel) (place_front a A (A_text f.1) f.0 (own f.1) ∙ ap (λ w. cond (text_eq A.text f.0) w 0) (text_own f.1)))
              ∙ through (text_eq P.text d.name) (text_eq Q.text rel.name) (cond (text_eq A.text f.0) (left c g (v ++ A_text f.1 ∷ []) x ds) 0) (keep_cond v a A.text f.0 (left c g (v ++ A_text f.1 ∷ []) x ds) A.is)
            where
              through : (b b' : Bool) (w : ℕ) → cond (keeps a f.0) w 0 ≡ w → cond (keeps a f.0) (cond b (cond b' w 0) 0) 0 ≡ cond b (cond b' w 0) 0
              through true true w e = e
              through true false w e = cond-none (keeps a f.0)
              through false b' w e = cond-none (keeps a f.0)

          core : (d : DatabaseValue) (rel : RelationValue) → IsRelation rel → weigh (λ row. right (x ++ zip (header q k (range.Values p r a)) (d.name ∷ rel.name ∷ row)) more) (value_rows a rel) ≡ in_relation d rel (weigh (λ e. left c g (v ++ e ∷ []) x ds) (map A_text (filter_map (cell_under rel.attributes A.text) rel.rows)))
          core d rel ok =
              weigh-flat_map _ (λ row. map (λ (f : Text × Text). f.0 ∷ f.1 ∷ []) (filter (λ (f : Text × Text). keeps a f.0) (fields rel row))) rel.rows
              ∙ weigh-same _ _ (λ row.
              weigh-map _ (λ (f : Text × Text). f.0 ∷ f.1 ∷ []) (filter (λ (f : Text × Text). keeps a f.0) (fields rel row))
              ∙ weigh-filter _ (λ (f : Text × Text). keeps a f.0) (fields rel row)
              ∙ weigh-same _ _ (each d rel) (fields rel row)
              ∙ weigh-in d rel (λ (f : Text × Text). cond (text_eq A.text f.0) (left c g (v ++ A_text f.1 ∷ []) x ds) 0) (fields rel row)
              ∙ ap (in_relation d rel) (weigh-field A.text (λ s. left c g (v ++ A_text s ∷ []) x ds) rel.attributes row (apart_distinct rel.attributes ok.header.distinct))) rel.rows
              ∙ weigh-in d rel (λ row. weigh (λ s. left c g (v ++ A_text s ∷ []) x ds) (option_to_list (cell_under rel.attributes A.text row))) rel.rows
              ∙ ap (in_relation d rel) (sym (weigh-map _ A_text (filter_map (cell_under rel.attributes A.text) rel.rows) ∙ weigh-filter_map _ (cell_under rel.attributes A.text) rel.rows))
