-- The lines of one table take the table of old facts to that of new ones.
use Rattle.std.proofs.Common.{◌≡◌, ◌∷◌, ◌++◌, [], true, false, List, None, refl, sym, ◌∙◌, ap, subst, map, length, arith}
use Rattle.std.specs.Prelude.{nat_lt}
use Rattle.std.proofs.lemmas.Cmp.{tied_itself}
use Rattle.std.proofs.lemmas.List.{append-nil}
use Rattle.ss_text.specs.Texts.{Text, text_cmp}
use Rattle.ss_text.specs.Ascending.{ascending, with_element}
use Rattle.std.specs.List.Sorted.{IsStrictlySortedBy}
use Rattle.ss_text.proofs.KeyLemmas.{text_order, equal_itself}
use Rattle.flow_law.specs.declared.shape.Shape.{Shape}
use Rattle.flow_law.specs.declared.line.TableLine.{TableLine}
use Rattle.flow_law.specs.declared.line.TableLine.TheVariants.{TableMinus, TablePlus}
use Rattle.flow_law.specs.Facts.{Fact, facts_of}
use Rattle.flow_law.specs.FactTables.{fact_table, tables}
use Rattle.flow_law.specs.InOrder.{IsTable, AreTables}
use Rattle.flow_law.specs.Labelled.{AllBear}
use Rattle.flow_law.specs.Lines.{fit_lines, after_lines}
use Rattle.flow_law.specs.Script.{lines_between, script}
use Rattle.flow_law.specs.Tables.{TableValue, TablesValue, empty_table}
use Rattle.flow_law.proofs.FactTableLemmas.{fact_table_in_order}
use Rattle.flow_law.proofs.ScriptLaw.{after_lines-append, fit_lines-append, script_makes, script_fits}
use Rattle.unfold_op.specs.OneTables.{framed, table_lines}

-- the lines take the tables before to those after, each fitting
pub record Taken (before : TablesValue) (lines : List TableLine) (after : TablesValue) : Type 0 where
  pub fit : fit_lines before lines ≡ true
  pub made : after_lines before lines ≡ after

joined : (a b c : TablesValue) (xs ys : List TableLine) → Taken a xs b → Taken b ys c → Taken a (xs ++ ys) c
joined a b c xs ys h i = record {
  fit = fit_lines-append a xs ys h.fit (subst (λ (u : TablesValue). fit_lines u ys ≡ true) (sym h.made) i.fit);
  made = after_lines-append a xs ys ∙ ap (λ (u : TablesValue). after_lines u ys) h.made ∙ i.made;
}

-- the tables with this one alone
abbrev alone : Text → TableValue → TablesValue
alone label t = (label, t) ∷ []

module _ (label : Text) where
  alone_in_order : (t : TableValue) → IsTable t → AreTables (alone label t)
  unfolding IsStrictlySortedBy
  alone_in_order t h = record { labels = (tt, tt); tables = (h, tt) }

  once_more : with_element text_cmp label (label ∷ []) ≡ label ∷ []
  once_more = rw (tied_itself text_order.total label) refl

  -- the script between one table and another of its label
  pub script_alone : (old new : TableValue) → script (alone label old) (alone label new) ≡ lines_between label old new
  unfolding script
  script_alone old new = rw (once_more, equal_itself text_order label) (append-nil (lines_between label old new))

  changed_alone : (old new : TableValue) → IsTable old → IsTable new → Taken (alone label old) (lines_between label old new) (alone label new)
  changed_alone old new h i = record {
    fit = subst (λ (lines : List TableLine). fit_lines (alone label old) lines ≡ true) (script_alone old new) (script_fits (alone label old) (alone label new) (alone_in_order new i) (alone_in_order old h));
    made = subst (λ (lines : List TableLine). after_lines (alone label old) lines ≡ alone label new) (script_alone old new) (script_makes (alone label old) (alone label new) (alone_in_order new i) (alone_in_order old h));
  }

  comes : Taken [] (TablePlus label ∷ []) (alone label empty_table)
  comes = record { fit = refl; made = refl }

  goes : (t : TableValue) → Taken (alone label t) (TableMinus label ∷ []) []
  goes t = record { fit = rw (equal_itself text_order label) refl; made = rw (equal_itself text_order label) refl }

  -- the facts of one label have one table, none where there is no fact
  one_label : (fs : List Fact) → AllBear label fs → ascending text_cmp (label ∷ map (λ (f : Fact). f.label) fs) ≡ label ∷ []
  one_label [] h = refl
  one_label (f ∷ fs) h = rw h.0 (ap (with_element text_cmp label) (one_label fs h.1) ∙ once_more)

  all_of_label : (fs : List Fact) → AllBear label fs → facts_of label fs ≡ fs
  all_of_label [] h = refl
  all_of_label (f ∷ fs) h = rw (h.0, equal_itself text_order label, all_of_label fs h.1) refl

  -- the lines, with the flags of their frame
  pub some_fact : (f : Fact) (fs : List Fact) → nat_lt 0 (length (f ∷ fs)) ≡ true
  some_fact f fs = grind arith

  pub lines_come : (g : Fact) (gs : List Fact) → table_lines label [] (g ∷ gs) ≡ TablePlus label ∷ lines_between label empty_table (fact_table (g ∷ gs))
  lines_come g gs =
      ap (λ b. framed label false b (lines_between label empty_table (fact_table (g ∷ gs)))) (some_fact g gs) ∙ append-nil (TablePlus label ∷ lines_between label empty_table (fact_table (g ∷ gs)))

  lines_go : (f : Fact) (fs : List Fact) → table_lines label (f ∷ fs) [] ≡ lines_between label (fact_table (f ∷ fs)) empty_table ++ TableMinus label ∷ []
  lines_go f fs = ap (λ b. framed label b false (lines_between label (fact_table (f ∷ fs)) empty_table)) (some_fact f fs)

  pub lines_stay : (f : Fact) (fs : List Fact) (g : Fact) (gs : List Fact) → table_lines label (f ∷ fs) (g ∷ gs) ≡ lines_between label (fact_table (f ∷ fs)) (fact_table (g ∷ gs))
  lines_stay f fs g gs =
      (λ i. framed label (some_fact f fs i) (some_fact g gs i) (lines_between label (fact_table (f ∷ fs)) (fact_table (g ∷ gs)))) ∙ append-nil (lines_between label (fact_table (f ∷ fs)) (fact_table (g ∷ gs)))

  module _ (shape : Shape) (variable : shape.label ≡ None) where
    no_table : tables shape [] ≡ []
    unfolding tables
    no_table = rw variable refl

    one_table : (f : Fact) (fs : List Fact) → AllBear label (f ∷ fs) → tables shape (f ∷ fs) ≡ alone label (fact_table (f ∷ fs))
    unfolding tables
    one_table f fs h =
        let labels : ascending text_cmp (map (λ (g : Fact). g.label) (f ∷ fs)) ≡ label ∷ [] = ap (λ (l : Text). ascending text_cmp (l ∷ map (λ (g : Fact). g.label) fs)) h.0 ∙ one_label fs h.1 in
        rw variable (ap (map (λ (l : Text). let entry : Text × TableValue = (l, fact_table (facts_of l (f ∷ fs))) in entry)) labels ∙ ap (λ (gs : List Fact). alone label (fact_table gs)) (all_of_label (f ∷ fs) h))

    pub table_law : (old new : List Fact) → AllBear label old → AllBear label new → Taken (tables shape old) (table_lines label old new) (tables shape new)
    table_law [] [] h i = rw no_table (record { fit = refl; made = refl })
    table_law [] (g ∷ gs) h i =
        subst (λ (lines : List TableLine). Taken (tables shape []) lines (tables shape (g ∷ gs))) (sym (lines_come g gs))
        (rw (no_table, one_table g gs i)
        (joined [] (alone label empty_table) (alone label (fact_table (g ∷ gs))) (TablePlus label ∷ []) (lines_between label empty_table (fact_table (g ∷ gs))) comes (changed_alone empty_table (fact_table (g ∷ gs)) (fact_table_in_order []) (fact_table_in_order (g ∷ gs)))))
    table_law (f ∷ fs) [] h i =
        subst (λ (lines : List TableLine). Taken (tables shape (f ∷ fs)) lines (tables shape [])) (sym (lines_go f fs))
        (rw (no_table, one_table f fs h)
        (joined (alone label (fact_table (f ∷ fs))) (alone label empty_table) [] (lines_between label (fact_table (f ∷ fs)) empty_table) (TableMinus label ∷ []) (changed_alone (fact_table (f ∷ fs)) empty_table (fact_table_in_order (f ∷ fs)) (fact_table_in_order [])) (goes empty_table)))
    table_law (f ∷ fs) (g ∷ gs) h i =
        subst (λ (lines : List TableLine). Taken (tables shape (f ∷ fs)) lines (tables shape (g ∷ gs))) (sym (lines_stay f fs g gs))
        (rw (one_table f fs h, one_table g gs i)
        (changed_alone (fact_table (f ∷ fs)) (fact_table (g ∷ gs)) (fact_table_in_order (f ∷ fs)) (fact_table_in_order (g ∷ gs))))
