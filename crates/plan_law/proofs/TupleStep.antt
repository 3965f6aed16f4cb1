-- A tuple variable: its rows weigh what the flat rows of their wanted cells do, with those of a fold.
use Rattle.std.proofs.Common.{◌≡◌, inl, inr, subst, ℕ, ◌+◌, List, [], ◌∷◌, ◌++◌, length, map, Bool, true, false, cond, refl, arith, ap, sym, ◌∙◌, Option, Some, None, is_some, append_assoc, append-nil}
use Rattle.std.specs.Prelude.{option_to_list, flat_map, zip}
use Rattle.std.specs.List.{slice_get, range_with_len}
use Rattle.std.proofs.Math.Nat.{add-zero}
use Rattle.ss_text.specs.Texts.{Text, Row, text_eq}
use Rattle.schema_model.specs.Catalogue.{RelationValue, DatabaseValue, CatalogueValue}
use Rattle.schema_model.specs.Sound.{IsRelation, IsSound}
use Rattle.plan_law.specs.Kinds.{Place, Term, Range}
use Rattle.plan_law.specs.Kinds.place
use Rattle.plan_law.specs.Kinds.term
use Rattle.plan_law.specs.Kinds.range
use Rattle.view_def.specs.Query.{Query}
use Rattle.view_def.specs.Profile.{is_text_variable}
use Rattle.view_meaning.specs.Elements.{Element, A_row, Valuation}
use Rattle.view_meaning.specs.Terms.{Reading}
use Rattle.view_meaning.specs.Meaning.{term_of}
use Rattle.schema_delta.specs.Flat.{flat}
use Rattle.plan_law.specs.Columns.{Combo, tested_terms, wanted, fold_of, spec_of, fold_header, header}
use Rattle.plan_law.proofs.Weights.{weigh-places}
use Rattle.plan_law.proofs.Columns.{Has, has_left, has_right}
use Rattle.plan_law.proofs.Held.{Picked, PickedFor, HeldTuple, fold_is}
use Rattle.plan_law.proofs.Agree.{left, left-own, IsWeight}
use Rattle.plan_law.proofs.Sums.{apart_distinct}
use Rattle.plan_law.proofs.Tuples.{cell_term, weigh-has, field_cell, missing_cell, zip_more, cell_is, cells_hold, cells_held, cells_columns, left-fold, left-missing}
use Rattle.plan_law.proofs.Relations.{relations_step}
use Rattle.plan_law.proofs.Held.{wanted_is}
use Rattle.plan_law.proofs.Steps.{last_get, Placed, Fine, fine_none, fine_more, fine_append, right, Next, Step, places_front, in_relation, weigh-in}
use Rattle.plan_law.proofs.FlatForm.{flat_weighs}
use Rattle.plan_law.proofs.FlatRows.{cells_under, fields, per_field, tuple_rows}
use Rattle.operator_law.specs.Bags.{weigh}
use Rattle.operator_law.proofs.Weights.{weigh-same, weigh-map, weigh-flat_map}

-- where the variable of each fold is a text variable
abbrev pub FoldsText : Query → Type 0
FoldsText q = (k u : ℕ) → Has (tested_terms q) (term.Cell k (place.Var u)) → is_text_variable q.decls u ≡ true

module _ (c : CatalogueValue) (sound : IsSound c) (q : Query) (folds : FoldsText q) (g : Reading → ℕ) (weight : IsWeight q g) where
  module _ (v : Valuation) (x : Combo) (k : ℕ) (size : length v ≡ k) (ds : List Range) (more : List (List Combo)) (p r : Place) (P : Placed q v p) (Q : Placed q v r) (next : Next c sound q g weight v x k size ds more (range.Tuples p r)) where
    abbrev inside : DatabaseValue → RelationValue → ℕ → ℕ
    inside d rel w = in_relation c sound q g weight v x k size ds more p r P Q d rel w

    abbrev names : DatabaseValue → RelationValue → Combo
    names d rel = (term_of p, d.name) ∷ (term_of r, rel.name) ∷ []

    module _ (d : DatabaseValue) (rel : RelationValue) (ok : IsRelation rel) (i : ℕ) (row : Row) (there : slice_get rel.rows i ≡ Some row) where
      abbrev element : Element
      element = A_row rel i

      abbrev longer : Valuation
      longer = v ++ element ∷ []

      at : slice_get longer k ≡ Some element
      at = last_get v element k size

      -- the row alone
      module _ (cells : Row) (are : cells_under rel.attributes (wanted q k) row ≡ Some cells) where
        abbrev cell_columns : Combo
        cell_columns = zip (map (cell_term k) (wanted q k)) cells

        fine_cells : Fine q cell_columns
        fine_cells = cells_columns q k (wanted q k) cells (λ a m. m)

        fine_names : (o : Combo) → Fine q o → Fine q ((term_of p, d.name) ∷ (term_of r, rel.name) ∷ o)
        fine_names o h = fine_more q (term_of p) d.name ((term_of r, rel.name) ∷ o) P.column (fine_more q (term_of r) rel.name o Q.column h)

        cells_own : left c g longer (x ++ cell_columns) ds ≡ left c g longer x ds
        cells_own = left-own c g longer x cell_columns ds (cells_hold longer k rel i row at there (wanted q k) cells are)

        -- no fold
        alone : fold_of q k ≡ None → right c sound q g weight (x ++ (term_of p, d.name) ∷ (term_of r, rel.name) ∷ cell_columns) more ≡ inside d rel (left c g longer x ds)
        alone none =
            let o : Combo = (term_of p, d.name) ∷ (term_of r, rel.name) ∷ cell_columns in
            let stands : HeldTuple longer (x ++ o) k (wanted q k) (fold_of q k) = record {
              cells = cells_held longer k rel i row at there (x ++ o) (wanted q k) cells are (λ t s m. has_right x o (t, s) (inr (inr m)));
              picked = subst (PickedFor longer (x ++ o) k) (sym none) tt;
            } in
            sym (next element o stands (fine_names cell_columns fine_cells))
            ∙ places_front c sound q g weight v x k size ds more p r P Q element d.name rel.name cell_columns
            ∙ ap (inside d rel) cells_own

        -- the fold of a variable
        module _ (u : ℕ) (fold : fold_of q k ≡ Some u) where
          abbrev two : Text × Text → Combo
          two f = (term.Var u, f.0) ∷ (term.Cell k (place.Var u), f.1) ∷ []

          fine_two : (f : Text × Text) → Fine q (two f)
          fine_two f = fine_more q (term.Var u) f.0 ((term.Cell k (place.Var u), f.1) ∷ []) (folds k u (fold_is q k u fold)) (fine_more q (term.Cell k (place.Var u)) f.1 [] (fold_is q k u fold) (fine_none q))

          one_field : (f : Text × Text) → Has (fields rel row) f → right c sound q g weight (x ++ (term_of p, d.name) ∷ (term_of r, rel.name) ∷ (cell_columns ++ two f)) more ≡ inside d rel (left c g longer ((x ++ cell_columns) ++ two f) ds)
          one_field f m =
              let o : Combo = (term_of p, d.name) ∷ (term_of r, rel.name) ∷ (cell_columns ++ two f) in
              let picked : Picked longer (x ++ o) k u = record {
                name = f.0;
                text = f.1;
                cell = cell_is longer k rel i row at there f.0 ∙ field_cell rel.attributes row f.0 f.1 (apart_distinct rel.attributes ok.header.distinct) m;
                named = has_right x o (term.Var u, f.0) (inr (inr (has_right cell_columns (two f) (term.Var u, f.0) (inl refl))));
                column = has_right x o (term.Cell k (place.Var u), f.1) (inr (inr (has_right cell_columns (two f) (term.Cell k (place.Var u), f.1) (inr (inl refl)))));
              } in
              let stands : HeldTuple longer (x ++ o) k (wanted q k) (fold_of q k) = record {
                cells = cells_held longer k rel i row at there (x ++ o) (wanted q k) cells are (λ t s m. has_right x o (t, s) (inr (inr (has_left cell_columns (two f) (t, s) m))));
                picked = subst (PickedFor longer (x ++ o) k) (sym fold) picked;
              } in
              sym (next element o stands (fine_names (cell_columns ++ two f) (fine_append q cell_columns (two f) fine_cells (fine_two f))))
              ∙ places_front c sound q g weight v x k size ds more p r P Q element d.name rel.name (cell_columns ++ two f)
              ∙ ap (λ y. inside d rel (left c g longer y ds)) (sym (append_assoc x cell_columns (two f)))

          folded : weigh (λ (f : Text × Text). right c sound q g weight (x ++ (term_of p, d.name) ∷ (term_of r, rel.name) ∷ (cell_columns ++ two f)) more) (fields rel row) ≡ inside d rel (left c g longer x ds)
          folded =
              weigh-has _ _ (fields rel row) one_field
              ∙ weigh-in c sound q g weight v x k size ds more p r P Q d rel (λ (f : Text × Text). left c g longer ((x ++ cell_columns) ++ two f) ds) (fields rel row)
              ∙ ap (inside d rel) (
              left-fold c q g weight longer (x ++ cell_columns) ds k u rel i row at there (apart_distinct rel.attributes ok.header.distinct) (fold_is q k u fold)
              ∙ cells_own)

      -- what the flat rows of the row weigh
      abbrev row_weight : Row → ℕ
      row_weight tail = right c sound q g weight (x ++ zip (header q k (range.Tuples p r)) (d.name ∷ rel.name ∷ tail)) more

      some_cells : (cells : Row) → cells_under rel.attributes (wanted q k) row ≡ Some cells → (fold : Option ℕ) → fold_of q k ≡ fold → weigh row_weight (per_field (is_some (fold_of q k)) (fields rel row) cells) ≡ inside d rel (left c g longer x ds)
      some_cells cells are None none =
          ap (λ (o : Option ℕ). weigh (λ tail. right c sound q g weight (x ++ (term_of p, d.name) ∷ (term_of r, rel.name) ∷ zip (map (cell_term k) (wanted q k) ++ fold_header k o) tail) more) (per_field (is_some o) (fields rel row) cells)) none
          ∙ add-zero (right c sound q g weight (x ++ (term_of p, d.name) ∷ (term_of r, rel.name) ∷ zip (map (cell_term k) (wanted q k) ++ []) cells) more)
          ∙ ap (λ (h : List Term). right c sound q g weight (x ++ (term_of p, d.name) ∷ (term_of r, rel.name) ∷ zip h cells) more) (append-nil (map (cell_term k) (wanted q k)))
          ∙ alone cells are none
      some_cells cells are (Some u) fold =
          ap (λ (o : Option ℕ). weigh (λ tail. right c sound q g weight (x ++ (term_of p, d.name) ∷ (term_of r, rel.name) ∷ zip (map (cell_term k) (wanted q k) ++ fold_header k o) tail) more) (per_field (is_some o) (fields rel row) cells)) fold
          ∙ weigh-map _ (λ (f : Text × Text). cells ++ f.0 ∷ f.1 ∷ []) (fields rel row)
          ∙ weigh-same _ _ (λ (f : Text × Text). ap (λ (y : Combo). right c sound q g weight (x ++ (term_of p, d.name) ∷ (term_of r, rel.name) ∷ y) more) (zip_more k rel.attributes row (wanted q k) cells (fold_header k (Some u)) (f.0 ∷ f.1 ∷ []) are)) (fields rel row)
          ∙ folded cells are u fold

      each_row : (o : Option Row) → cells_under rel.attributes (wanted q k) row ≡ o → inside d rel (left c g longer x ds) ≡ weigh row_weight (flat_map (per_field (is_some (fold_of q k)) (fields rel row)) (option_to_list o))
      each_row None none =
          let m = missing_cell rel.attributes row (wanted q k) none in
          ap (inside d rel) (left-missing c q g weight longer x ds k m.0 rel i row at there (wanted_is q k m.0 m.1) m.2) ∙ nothing (text_eq P.text d.name) (text_eq Q.text rel.name)
        where
          nothing : (a b : Bool) → ◌≡◌ {A = ℕ} (cond a (cond b 0 0) 0) 0
          nothing true true = refl
          nothing true false = refl
          nothing false b = refl
      each_row (Some cells) are =
          sym (
          weigh-flat_map row_weight (per_field (is_some (fold_of q k)) (fields rel row)) (cells ∷ [])
          ∙ add-zero (weigh row_weight (per_field (is_some (fold_of q k)) (fields rel row) cells))
          ∙ some_cells cells are (fold_of q k) refl)

    pub step_tuples : Step c sound q g weight v x k size ds more (range.Tuples p r)
    step_tuples =
        relations_step c sound v p P.text P.is r Q.text Q.is (λ row. right c sound q g weight (x ++ zip (header q k (range.Tuples p r)) row) more) (λ e. left c g (v ++ e ∷ []) x ds) (tuple_rows (wanted q k) (is_some (fold_of q k)))
        (λ (rel : RelationValue). map (A_row rel) (range_with_len 0 (length rel.rows)))
        core
        ∙ sym (weigh-map _ (zip (header q k (range.Tuples p r))) (flat c (spec_of q k (range.Tuples p r))) ∙ flat_weighs c sound (spec_of q k (range.Tuples p r)) _)
      where
        core : (d : DatabaseValue) (rel : RelationValue) → IsRelation rel → weigh (λ tail. right c sound q g weight (x ++ zip (header q k (range.Tuples p r)) (d.name ∷ rel.name ∷ tail)) more) (tuple_rows (wanted q k) (is_some (fold_of q k)) rel)
            ≡ inside d rel (weigh (λ e. left c g (v ++ e ∷ []) x ds) (map (A_row rel) (range_with_len 0 (length rel.rows))))
        core d rel ok =
            weigh-flat_map _ (λ row. flat_map (per_field (is_some (fold_of q k)) (fields rel row)) (option_to_list (cells_under rel.attributes (wanted q k) row))) rel.rows
            ∙ sym (
            ap (inside d rel) (weigh-map _ (A_row rel) (range_with_len 0 (length rel.rows)))
            ∙ sym (weigh-in c sound q g weight v x k size ds more p r P Q d rel (λ i. left c g (v ++ A_row rel i ∷ []) x ds) (range_with_len 0 (length rel.rows)))
            ∙ weigh-places _ _ 0 rel.rows (λ i row at.
            ap (λ j. inside d rel (left c g (v ++ A_row rel j ∷ []) x ds)) (plus i) ∙ each_row d rel ok i row at (cells_under rel.attributes (wanted q k) row) refl))
          where
            plus : (i : ℕ) → 0 + i ≡ i
            plus i = omega arith
