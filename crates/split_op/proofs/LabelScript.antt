-- Labels that a change of facts does not name give no lines.
use Rattle.std.proofs.Common.{◌≡◌, ◌∷◌, ◌++◌, [], Bool, true, false, cond, List, Some, None, refl, sym, ◌∙◌, ap, map}
use Rattle.std.specs.Prelude.{◌&&◌, ◌||◌, filter, flat_map, option_to_list, if◌then◌else◌}
use Rattle.std.specs.List.{list_any}
use Rattle.std.specs.Map.{lookup, keys_of}
use Rattle.std.proofs.lemmas.Bool.{false≢true}
use Rattle.std.proofs.lemmas.List.Folds.{list_any-append}
use Rattle.ss_text.specs.Texts.{Text, text_eq, text_cmp, is_in}
use Rattle.ss_text.specs.Ascending.{ascending}
use Rattle.ss_text.proofs.KeyLemmas.{text_order, equal_is}
use Rattle.ss_text.proofs.PairLemmas.{any_ascending, ascending_ascends}
use Rattle.flow_law.specs.declared.shape.Shape.{Shape}
use Rattle.flow_law.specs.declared.line.TableLine.{TableLine}
use Rattle.flow_law.specs.Facts.{Fact, facts_of}
use Rattle.flow_law.specs.Tables.{TableValue, table_of, labels_of}
use Rattle.flow_law.specs.FactTables.{fact_table, tables}
use Rattle.flow_law.specs.Script.{lines_between, lines_for, script}
use Rattle.unfold_op.specs.Touched.{SameBeyond}
use Rattle.unfold_op.proofs.Picked.{filters_same}
use Rattle.unfold_op.proofs.TouchedLines.{changed_is_touched}
use Rattle.split_op.specs.LabelLines.{has_label, table_for, label_lines, labels_named}

-- the tables and their labels
keys_mapped : (f : Text → TableValue) (ls : List Text) → keys_of (map (λ l. let p : Text × TableValue = (l, f l) in p) ls) ≡ ls
keys_mapped f [] = refl
keys_mapped f (l ∷ ls) = ap (λ rest. l ∷ rest) (keys_mapped f ls)

found_made : (f : Text → TableValue) (ls : List Text) (q : Text) → lookup (text_eq q) (map (λ l. let p : Text × TableValue = (l, f l) in p) ls) ≡ cond (is_in q ls) (Some (f q)) None
found_made f [] q = refl
found_made f (l ∷ ls) q = by_test (text_eq q l) refl (found_made f ls q)
  where
    by_test : (b : Bool) → text_eq q l ≡ b → lookup (text_eq q) (map (λ l. let p : Text × TableValue = (l, f l) in p) ls) ≡ cond (is_in q ls) (Some (f q)) None
        → lookup (text_eq q) (map (λ l. let p : Text × TableValue = (l, f l) in p) (l ∷ ls)) ≡ cond (is_in q (l ∷ ls)) (Some (f q)) None
    by_test true e rest = rw e (ap (λ (k : Text). Some (f k)) (sym (equal_is text_order q l e)))
    by_test false e rest = rw e rest

pub table_is : (shape : Shape) (fs : List Fact) (label : Text) → table_of (tables shape fs) label ≡ table_for shape fs label
unfolding tables
table_is shape fs label =
    found_made (λ l. fact_table (facts_of l fs)) (ascending text_cmp (option_to_list shape.label ++ map (λ (f : Fact). f.label) fs)) label
    ∙ ap (λ b. cond b (Some (fact_table (facts_of label fs))) None) (any_ascending text_order label (option_to_list shape.label ++ map (λ (f : Fact). f.label) fs))

pub labels_are : (shape : Shape) (fs : List Fact) → labels_of (tables shape fs) ≡ ascending text_cmp (option_to_list shape.label ++ map (λ (f : Fact). f.label) fs)
unfolding tables
labels_are shape fs = keys_mapped (λ l. fact_table (facts_of l fs)) (ascending text_cmp (option_to_list shape.label ++ map (λ (f : Fact). f.label) fs))

-- the facts of one label
pub any_own : (label : Text) (p : Fact → Bool) (fs : List Fact) → list_any p (facts_of label fs) ≡ list_any (λ (f : Fact). text_eq label f.label && p f) fs
any_own label p [] = refl
any_own label p (f ∷ fs) = by_test (text_eq label f.label) refl (any_own label p fs)
  where
    by_test : (b : Bool) → text_eq label f.label ≡ b → list_any p (facts_of label fs) ≡ list_any (λ (g : Fact). text_eq label g.label && p g) fs → list_any p (facts_of label (f ∷ fs)) ≡ list_any (λ (g : Fact). text_eq label g.label && p g) (f ∷ fs)
    by_test true e rest = rw e (ap (λ b. p f || b) rest)
    by_test false e rest = rw e rest

-- a change of all facts is one of the facts of each label
pub beyond_own : (label : Text) (named old new : List Fact) → SameBeyond named old new → SameBeyond (facts_of label named) (facts_of label old) (facts_of label new)
beyond_own label named old new h = record {
  same = λ p none. any_own label p old ∙ h.same (λ (f : Fact). text_eq label f.label && p f) (sym (any_own label p named) ∙ none) ∙ sym (any_own label p new);
}

pub any_label : (label : Text) (fs : List Fact) → is_in label (map (λ (f : Fact). f.label) fs) ≡ list_any (λ (f : Fact). text_eq label f.label) fs
any_label label [] = refl
any_label label (f ∷ fs) = ap (λ b. text_eq label f.label || b) (any_label label fs)

-- of a label that is not named
pub none_own : (label : Text) (fs : List Fact) → list_any (λ (f : Fact). text_eq label f.label) fs ≡ false → facts_of label fs ≡ []
none_own label [] h = refl
none_own label (f ∷ fs) h = by_test (text_eq label f.label) refl (λ rest. none_own label fs rest)
  where
    by_test : (b : Bool) → text_eq label f.label ≡ b → (list_any (λ (g : Fact). text_eq label g.label) fs ≡ false → facts_of label fs ≡ []) → facts_of label (f ∷ fs) ≡ []
    by_test true e rest = absurd (false≢true (sym (rw e at h)))
    by_test false e rest = rw e (rest (rw e at h))

module _ (shape : Shape) (named old new : List Fact) (beyond : SameBeyond named old new) where
  label_same : (label : Text) → list_any (λ (f : Fact). text_eq label f.label) named ≡ false → has_label shape old label ≡ has_label shape new label
  label_same label h =
      list_any-append (text_eq label) (option_to_list shape.label) (map (λ (f : Fact). f.label) old)
      ∙ ap (λ b. is_in label (option_to_list shape.label) || b) (any_label label old ∙ beyond.same (λ (f : Fact). text_eq label f.label) h ∙ sym (any_label label new))
      ∙ sym (list_any-append (text_eq label) (option_to_list shape.label) (map (λ (f : Fact). f.label) new))

  no_lines : (label : Text) → list_any (λ (f : Fact). text_eq label f.label) named ≡ false → label_lines shape old new label ≡ []
  no_lines label h = rw (label_same label h) (by_test (has_label shape new label))
    where
      unchanged : lines_between label (fact_table (facts_of label old)) (fact_table (facts_of label new)) ≡ []
      unchanged =
          let own = beyond_own label named old new beyond in
          changed_is_touched label (facts_of label named) (facts_of label old) (facts_of label new) own ∙ rw (none_own label named h) refl

      by_test : (b : Bool) → lines_for label (if b then Some (fact_table (facts_of label old)) else None) (if b then Some (fact_table (facts_of label new)) else None) ≡ []
      by_test true = unchanged
      by_test false = refl

  -- no lines without a label before or after
  no_table : (label : Text) → has_label shape old label ≡ false → has_label shape new label ≡ false → label_lines shape old new label ≡ []
  no_table label h i = rw (h, i) refl

is_some_list : List TableLine → Bool
is_some_list [] = false
is_some_list (l ∷ ls) = true

-- labels without lines may be left out
kept_labels : (f : Text → List TableLine) (ls : List Text) → flat_map f (filter (λ l. is_some_list (f l)) ls) ≡ flat_map f ls
unfolding is_some_list
kept_labels f [] = refl
kept_labels f (l ∷ ls) = by_lines (f l) refl (kept_labels f ls)
  where
    by_lines : (xs : List TableLine) → f l ≡ xs → flat_map f (filter (λ k. is_some_list (f k)) ls) ≡ flat_map f ls → flat_map f (filter (λ k. is_some_list (f k)) (l ∷ ls)) ≡ flat_map f (l ∷ ls)
    by_lines [] e rest = rw e rest
    by_lines (x ∷ xs) e rest = rw e (ap (λ ys. f l ++ ys) rest ∙ ap (λ ys. ys ++ flat_map f ls) e)

flat_same : (f g : Text → List TableLine) → ((l : Text) → f l ≡ g l) → (ls : List Text) → flat_map f ls ≡ flat_map g ls
flat_same f g h ls = ap (λ k. flat_map k ls) (λ i l. h l i)

pub script_touched : (shape : Shape) (named old new : List Fact) → SameBeyond named old new → script (tables shape old) (tables shape new) ≡ flat_map (label_lines shape old new) (labels_named named)
unfolding script is_some_list
script_touched shape named old new beyond =
    flat_same (λ l. lines_for l (table_of (tables shape old) l) (table_of (tables shape new) l)) (label_lines shape old new) (λ l. λ i. lines_for l (table_is shape old l i) (table_is shape new l i)) every
    ∙ sym (kept_labels (label_lines shape old new) every)
    ∙ ap (flat_map (label_lines shape old new)) (filters_same text_order some some every (labels_named named) (ascending_ascends text_order (labels_of (tables shape old) ++ labels_of (tables shape new))) (ascending_ascends text_order (map (λ (f : Fact). f.label) named)) alike)
    ∙ kept_labels (label_lines shape old new) (labels_named named)
  where
    every : List Text
    every = ascending text_cmp (labels_of (tables shape old) ++ labels_of (tables shape new))

    some : Text → Bool
    some l = is_some_list (label_lines shape old new l)

    among : (fs : List Fact) (l : Text) → is_in l (labels_of (tables shape fs)) ≡ has_label shape fs l
    among fs l = ap (is_in l) (labels_are shape fs) ∙ any_ascending text_order l (option_to_list shape.label ++ map (λ (f : Fact). f.label) fs)

    every_has : (l : Text) → is_in l every ≡ (has_label shape old l || has_label shape new l)
    every_has l =
        any_ascending text_order l (labels_of (tables shape old) ++ labels_of (tables shape new)) ∙ list_any-append (text_eq l) (labels_of (tables shape old)) (labels_of (tables shape new))
        ∙ (λ i. among old l i || among new l i)

    named_has : (l : Text) → is_in l (labels_named named) ≡ list_any (λ (f : Fact). text_eq l f.label) named
    named_has l = any_ascending text_order l (map (λ (f : Fact). f.label) named) ∙ any_label l named

    alike : (l : Text) → (is_in l every && some l) ≡ (is_in l (labels_named named) && some l)
    alike l = by_case (is_in l every) refl (is_in l (labels_named named)) refl
      where
        never : (b : Bool) → (b && false) ≡ false
        never true = refl
        never false = refl

        none : label_lines shape old new l ≡ [] → some l ≡ false
        none e = ap is_some_list e

        either_first : (a b : Bool) → (a || b) ≡ false → a ≡ false
        either_first true b h = absurd (false≢true (sym h))
        either_first false b h = refl

        either_second : (a b : Bool) → (a || b) ≡ false → b ≡ false
        either_second true b h = absurd (false≢true (sym h))
        either_second false b h = h

        by_case : (a : Bool) → is_in l every ≡ a → (b : Bool) → is_in l (labels_named named) ≡ b → (a && some l) ≡ (b && some l)
        by_case true e true t = refl
        by_case false e false t = refl
        by_case true e false t = none (no_lines shape named old new beyond l (sym (named_has l) ∙ t))
        by_case false e true t =
            let both = sym (every_has l) ∙ e in
            sym (none (no_table shape named old new beyond l (either_first (has_label shape old l) (has_label shape new l) both) (either_second (has_label shape old l) (has_label shape new l) both)))
