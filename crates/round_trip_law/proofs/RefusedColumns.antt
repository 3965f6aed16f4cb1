-- When a view that makes names columns is refused.
use Rattle.std.proofs.Common.{◌≡◌, ◌∙◌, ◌||◌, ◌&&◌, Bool, true, false, List, [], ◌∷◌, Option, Some, None, map, refl, sym, ap}
use Rattle.std.specs.Prelude.{not, filter, option_map, is_some, bytes_eq}
use Rattle.std.specs.Option.{option_or}
use Rattle.std.specs.List.{list_any, list_all}
use Rattle.ss_text.specs.Texts.{Text, Row, text_cmp, is_in}
use Rattle.ss_text.specs.Ascending.{least}
use Rattle.ss_text.specs.Label.{is_table_label, is_column_label, has_label_length, is_column_byte}
use Rattle.ss_text.proofs.KeyLemmas.{text_order}
use Rattle.ss_text.proofs.PairLemmas.{turned}
use Rattle.schema_model.specs.Catalogue.{CatalogueValue}
use Rattle.flow_law.specs.declared.refused.IllegalLabel.{IllegalLabel}
use Rattle.flow_law.specs.declared.refused.Clash.{Clash}
use Rattle.flow_law.specs.declared.refused.EvalFault.TheVariants as eval
use Rattle.flow_law.specs.Facts.{Fact, Pair, pair_cmp, pairs_of, illegal, illegal_table, illegal_column, conflict, first_refusal, refusal_by}
use Rattle.view_meaning.specs.Meaning.{facts, shape_of}
use Rattle.view_meaning.specs.Refusal.{refusal}
use Rattle.round_trip_law.specs.Forms.{Named, Parts, Source, to_columns}
use Rattle.round_trip_law.specs.Kept.{is_refused}
use Rattle.round_trip_law.proofs.Entries.{Entry, column_fact}
use Rattle.view_meaning.proofs.OrderLemmas.{In, in_any}
use Rattle.round_trip_law.proofs.RefusedLemmas.{least_passes, any_mapped}
use Rattle.round_trip_law.proofs.ValuesAt.{some_clash, conflict_is}

-- a legal column is none of the constant ones
pub legal_apart : (t : Text) (fixed : Row) → is_column_label t fixed ≡ true → is_in t fixed ≡ false
unfolding is_column_label
legal_apart t fixed h = same fixed ∙ last (has_label_length t) (list_all is_column_byte t) (list_any (λ column. bytes_eq column t) fixed) h
  where
    last : (a b c : Bool) → (a && b && not c) ≡ true → c ≡ false
    last true true true h = absurd (cc)
    last true true false h = refl
    last true false c h = absurd (cc)
    last false b c h = absurd (cc)

    same : (ns : Row) → is_in t ns ≡ list_any (λ column. bytes_eq column t) ns
    same [] = refl
    same (n ∷ ns) = λ i. turned text_order t n i || same ns i

-- names that are all legal
abbrev pub some_illegal : Parts → List Entry → Bool
some_illegal p es = list_any (λ (e : Entry). not (is_column_label e.name p.keys)) es

module _ (p : Parts) (to : Named) where
  tables_legal : is_table_label to.rel ≡ true → (es : List Entry) → list_any (λ (t : Text). not (is_table_label t)) (map (λ (f : Fact). f.label) (map (column_fact to) es)) ≡ false
  tables_legal legal [] = refl
  tables_legal legal (e ∷ es) = rw legal (tables_legal legal es)

  pairs_are : (es : List Entry) → pairs_of (map (column_fact to) es) ≡ map (λ (e : Entry). let pair : Pair = (to.rel, e.name) in pair) es
  pairs_are [] = refl
  pairs_are (e ∷ es) = ap (λ (ps : List Pair). (to.rel, e.name) ∷ ps) (pairs_are es)

  mapped_there : {A B : Type 0} (f : A → B) (o : Option A) → is_some (option_map f o) ≡ is_some o
  mapped_there f None = refl
  mapped_there f (Some x) = refl

  either_there : {A : Type 0} (o w : Option A) → is_some (option_or o w) ≡ (is_some o || is_some w)
  either_there None w = refl
  either_there (Some x) w = refl

  first_there : (o : Option IllegalLabel) (w : Option Clash) → is_some (first_refusal eval.Illegal eval.Conflict o w) ≡ (is_some o || is_some w)
  first_there None None = refl
  first_there None (Some c) = refl
  first_there (Some l) w = refl

  table_refused : (fs : List Fact) → is_some (illegal_table fs) ≡ list_any (λ (t : Text). not (is_table_label t)) (map (λ (f : Fact). f.label) fs)
  table_refused fs =
      mapped_there _ (least text_cmp (filter (λ (t : Text). not (is_table_label t)) (map (λ (f : Fact). f.label) fs)))
      ∙ least_passes text_cmp (λ (t : Text). not (is_table_label t)) (map (λ (f : Fact). f.label) fs)

  column_refused : (es : List Entry) → is_some (illegal_column p.keys (map (column_fact to) es)) ≡ some_illegal p es
  column_refused es =
      mapped_there _ (least pair_cmp (filter (λ (x : Pair). not (is_column_label x.1 p.keys)) (pairs_of (map (column_fact to) es))))
      ∙ least_passes pair_cmp (λ (x : Pair). not (is_column_label x.1 p.keys)) (pairs_of (map (column_fact to) es))
      ∙ ap (list_any (λ (x : Pair). not (is_column_label x.1 p.keys))) (pairs_are es)
      ∙ any_mapped (λ (e : Entry). let pair : Pair = (to.rel, e.name) in pair) (λ (x : Pair). not (is_column_label x.1 p.keys)) es

  module _ (legal : is_table_label to.rel ≡ true) (c : CatalogueValue) (s : Source) (es : List Entry) (is : facts c (to_columns p to s) ≡ map (column_fact to) es) where
    pub columns_refused : is_refused c (to_columns p to s) ≡ (some_illegal p es || some_clash es)
    unfolding refusal refusal_by illegal
    columns_refused =
        let fs : List Fact = map (column_fact to) es in
        ap (λ (fs : List Fact). is_some (refusal_by eval.Illegal eval.Conflict (shape_of (to_columns p to s)) fs)) is
        ∙ first_there (illegal (shape_of (to_columns p to s)) fs) (conflict fs)
        ∙ (λ i. either_there (illegal_table fs) (illegal_column p.keys fs) i || conflict_is to es i)
        ∙ (λ i. ((table_refused fs ∙ tables_legal legal es) i || column_refused es i) || some_clash es)

    pub names_apart : is_refused c (to_columns p to s) ≡ false → (e : Entry) → In e es → is_in e.name p.keys ≡ false
    names_apart h e i = legal_apart e.name p.keys (by_label (is_column_label e.name p.keys) refl)
      where
        by_label : (b : Bool) → is_column_label e.name p.keys ≡ b → is_column_label e.name p.keys ≡ true
        by_label true l = l
        by_label false l =
            let some : some_illegal p es ≡ true = in_any (λ (e : Entry). not (is_column_label e.name p.keys)) e es i (ap not l) in
            let bad : true ≡ false = sym (columns_refused ∙ ap (λ b. b || some_clash es) some) ∙ h in
            absurd (cc)

    pub no_clash : is_refused c (to_columns p to s) ≡ false → some_clash es ≡ false
    no_clash h = second (some_illegal p es) (some_clash es) (sym columns_refused ∙ h)
      where
        second : (a b : Bool) → (a || b) ≡ false → b ≡ false
        second true b h = absurd (cc)
        second false b h = h
