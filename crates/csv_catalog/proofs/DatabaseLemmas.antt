-- The files of a database: their limit, and the order of their relations.
use Rattle.std.proofs.Common.{◌≡◌, ◌≢◌, ◌<◌, ◌≤◌, ◌-◌, ◌∷◌, ◌++◌, ◌∙◌, [], ℕ, List, true, Option, Some, None, refl, sym, ap, subst, length, map, drop}
use Rattle.std.specs.Prelude.{filter, codes, option_map, unwrap_or}
use Rattle.std.specs.List.{AllByRecursion, cons_option, list_all}
use Rattle.std.specs.List.Sorted.{IsStrictlySortedBy}
use Rattle.std.specs.Ordering.{ordering_reverse}
use Rattle.std.specs.Cmp.{IsTotalOrder}
use Rattle.std.specs.declared.cmp.Ordering.{Ordering}
use Rattle.std.specs.declared.cmp.Ordering.TheVariants.{Less, Equal, Greater}
use Rattle.std.proofs.lemmas.Bool.{and_parts, le-ltb, lt-ltb}
use Rattle.std.proofs.lemmas.List.Kept.{IsStrictlySortedBy-filter}
use Rattle.std.proofs.lemmas.List.{take-append-drop}
use Rattle.std.proofs.lemmas.Map.Lookups.{exact_bytes}
use Rattle.std.proofs.lemmas.Slice.Eq.{bytes_eq-Decides}
use Rattle.std.proofs.lemmas.Cmp.{tied_itself}
use Rattle.std.specs.Cmp.Lexicographic.{nat_list_cmp_total}
use Rattle.ss_text.specs.Texts.{Text, text_cmp}
use Rattle.ss_text.specs.Ascending.{with_element, ascending}
use Rattle.outside.specs.Tree.{Tree, file_at, files_of}
use Rattle.schema_model.specs.Catalogue.{RelationValue, relation_value}
use Rattle.schema_model.specs.declared.Which.TheVariants.{Relations}
use Rattle.csv_catalog.specs.declared.fault.LoadFault.{LoadFault}
use Rattle.csv_catalog.specs.declared.fault.LoadFault.TheVariants.{Limit}
use Rattle.csv_catalog.specs.Loaded.{File, file_in, files_read, files_fault, files_in, database_files, database_folder, database_fault, is_relation_file, label_of, relation_of, by_name}
use Rattle.csv_catalog.specs.Records.{records_of}
use Rattle.csv_catalog.specs.Reading.{all_placed}
use Rattle.csv_catalog.proofs.ListLemmas.{all_pass}
use Rattle.csv_catalog.proofs.PlaceLemmas.{total_by_name}
use Rattle.schema_model.specs.Limits.{most_relations}

-- of two elements that differ either may be put first
module _ {A : Type 0} (R : A → A → Ordering) (o : IsTotalOrder R) where
  turned : (x y : A) (c : Ordering) → R x y ≡ c → R y x ≡ ordering_reverse c
  turned x y c e = o.antisymm y x ∙ ap ordering_reverse e

  before : (x y z : A) (zs : List A) (a b : Ordering) → R x y ≡ Less → R x z ≡ a → R y z ≡ b → with_element R y (with_element R x zs) ≡ with_element R x (with_element R y zs)
      → with_element R y (with_element R x (z ∷ zs)) ≡ with_element R x (with_element R y (z ∷ zs))
  before x y z zs Less Less lt e f h = simp (e, f, lt, turned x y Less lt)
  before x y z zs Less Equal lt e f h = simp (e, f, turned x y Less lt)
  before x y z zs Less Greater lt e f h = simp (e, f, turned x y Less lt)
  before x y z zs Equal Less lt e f h = let bad : Less ≡ Greater = sym lt ∙ o.congr x z y e ∙ turned y z Less f in cc bad
  before x y z zs Equal Equal lt e f h = let bad : Less ≡ Equal = sym lt ∙ o.congr x z y e ∙ turned y z Equal f in cc bad
  before x y z zs Equal Greater lt e f h = simp (e, f)
  before x y z zs Greater Less lt e f h = let bad : Greater ≡ Less = sym e ∙ o.trans x y z lt f in cc bad
  before x y z zs Greater Equal lt e f h = let bad : Greater ≡ Less = sym (turned x y Less lt) ∙ o.congr y z x f ∙ turned x z Greater e in cc bad
  before x y z zs Greater Greater lt e f h = simp (e, f) (ap (λ t. z ∷ t) h)

  less_swapped : (x y : A) (zs : List A) → R x y ≡ Less → with_element R y (with_element R x zs) ≡ with_element R x (with_element R y zs)
  less_swapped x y [] lt = rw (lt, turned x y Less lt) refl
  less_swapped x y (z ∷ zs) lt = before x y z zs (R x z) (R y z) lt refl refl (less_swapped x y zs lt)

  swapped : (x y : A) (zs : List A) (c : Ordering) → R x y ≡ c → c ≢ Equal → with_element R y (with_element R x zs) ≡ with_element R x (with_element R y zs)
  swapped x y zs Less e differ = less_swapped x y zs e
  swapped x y zs Equal e differ = absurd (differ refl)
  swapped x y zs Greater e differ = sym (less_swapped y x zs (turned x y Greater e))

-- relations of distinct names, placed one after the other, are in order
abbrev Differ : RelationValue → List RelationValue → Type 0
Differ r rs = AllByRecursion (λ s. by_name r s ≢ Equal) rs

AllDiffer : List RelationValue → Type 0
AllDiffer [] = Unit {0}
AllDiffer (r ∷ rs) = Differ r rs × AllDiffer rs

placed_later : (r : RelationValue) (rs kept : List RelationValue) → Differ r rs → all_placed rs (with_element by_name r kept) ≡ with_element by_name r (all_placed rs kept)
unfolding all_placed
placed_later r [] kept h = refl
placed_later r (s ∷ rs) kept h = ap (all_placed rs) (swapped by_name total_by_name r s kept (by_name r s) refl h.0) ∙ placed_later r rs (with_element by_name s kept) h.1

placed_ascending : (rs : List RelationValue) → AllDiffer rs → all_placed rs [] ≡ ascending by_name rs
unfolding all_placed AllDiffer
placed_ascending [] h = refl
placed_ascending (r ∷ rs) h = placed_later r rs [] h.0 ∙ ap (with_element by_name r) (placed_ascending rs h.1)

-- files of different names have relations of different names
parts : (file : Text) → is_relation_file file ≡ true → file ≡ label_of file ++ codes ".csv"
parts file h =
    sym (take-append-drop (length file - 4) file) ∙ ap (λ (t : Text). label_of file ++ t) ((bytes_eq-Decides (drop (length file - 4) file) (codes ".csv")).0 (and_parts _ _ h).0)

labels_differ : (f g : Text) → is_relation_file f ≡ true → is_relation_file g ≡ true → text_cmp f g ≡ Less → text_cmp (label_of f) (label_of g) ≢ Equal
labels_differ f g hf hg lt e =
    let same : f ≡ g = parts f hf ∙ ap (λ (t : Text). t ++ codes ".csv") (exact_bytes (label_of f) (label_of g) e) ∙ sym (parts g hg) in
    let tie : text_cmp f g ≡ Equal = subst (λ (t : Text). text_cmp f t ≡ Equal) same (tied_itself nat_list_cmp_total f) in
    let bad : Less ≡ Equal = sym lt ∙ tie in
    cc bad

module _ (t : Tree) (folder : Text) where
  one_more : (o : Option File) (f : Text) (files : List File) (P : RelationValue → Type 0) → ((file : File) → o ≡ Some file → P (relation_of file)) → AllByRecursion P (map relation_of files) → AllByRecursion P (map relation_of (cons_option o files))
  one_more None f files P h k = k
  one_more (Some file) f files P h k = (h file refl, k)

  abbrev AreRelationFiles : List Text → Type 0
  AreRelationFiles fs = list_all is_relation_file fs ≡ true

  named_so : (bytes : Option (List ℕ)) (g : Text) (file : File) → option_map (λ (b : List ℕ). (g, records_of b)) bytes ≡ Some file → file.0 ≡ g
  named_so None g file e = cc e
  named_so (Some b) g file e = ap (λ (o : Option File). unwrap_or (option_map (λ (f : File). f.0) o) g) (sym e)

  differ_after : (r : RelationValue) (f : Text) (fs : List Text) → r.name ≡ label_of f → is_relation_file f ≡ true → AllByRecursion (λ g. text_cmp f g ≡ Less) fs → AreRelationFiles fs → Differ r (map relation_of (files_read t folder fs))
  differ_after r f [] n hf lt hs = tt
  differ_after r f (g ∷ gs) n hf lt hs =
      let each = and_parts (is_relation_file g) _ hs in
      one_more (file_in t folder g) g (files_read t folder gs) (λ s. by_name r s ≢ Equal)
      (λ file e. rw (n, named_so (file_at t folder g) g file e) (labels_differ f g hf each.0 lt.0)) (differ_after r f gs n hf lt.1 each.1)

  all_differ : (fs : List Text) → IsStrictlySortedBy text_cmp fs → AreRelationFiles fs → AllDiffer (map relation_of (files_read t folder fs))
  unfolding IsStrictlySortedBy AllDiffer
  all_differ [] h hs = tt
  all_differ (f ∷ fs) h hs =
      let each = and_parts (is_relation_file f) _ hs in
      first (file_at t folder f) (differ_after (relation_value (label_of f) [] []) f fs refl each.0 h.0 each.1) (all_differ fs h.1 each.1)
    where
      first : (bytes : Option (List ℕ)) → Differ (relation_value (label_of f) [] []) (map relation_of (files_read t folder fs)) → AllDiffer (map relation_of (files_read t folder fs))
          → AllDiffer (map relation_of (cons_option (option_map (λ (b : List ℕ). (f, records_of b)) bytes) (files_read t folder fs)))
      first None d k = k
      first (Some b) d k = (d, k)

module _ (t : Tree) (db : Text) (count : ℕ) (files : List Text) where
  pub database_wide : files ≡ files_in t db → most_relations < length files → database_fault t db count ≡ Some (Limit Relations)
  database_wide is wide = rw (← is, lt-ltb most_relations (length files) wide) refl

  pub database_rest : files ≡ files_in t db → length files ≤ most_relations → (o : Option LoadFault) → files_fault db count (files_read t (database_folder db) files) ≡ o → database_fault t db count ≡ o
  database_rest is few o e = rw (← is, le-ltb most_relations (length files) few) e

pub database_told : (t : Tree) (db : Text) (names files : List Text) → names ≡ files_of t (database_folder db) → files ≡ filter is_relation_file names → IsStrictlySortedBy text_cmp names
    → all_placed (map relation_of (files_read t (database_folder db) files)) [] ≡ ascending by_name (map relation_of (database_files t db))
database_told t db names files is are h =
    let here = are ∙ ap (filter is_relation_file) is in
    placed_ascending (map relation_of (files_read t (database_folder db) files)) (all_differ t (database_folder db) files (rw are (IsStrictlySortedBy-filter text_cmp is_relation_file names h)) (rw are (all_pass is_relation_file names)))
    ∙ ap (λ (fs : List Text). ascending by_name (map relation_of (files_read t (database_folder db) fs))) here
