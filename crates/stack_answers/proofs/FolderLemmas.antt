-- What the opening of levels brings their folders to.
use Rattle.std.proofs.Common.{◌≡◌, ◌∙◌, ◌+◌, ◌-◌, ◌<◌, ◌&&◌, ◌||◌, ℕ, suc, Bool, true, false, cond, not, List, [], ◌∷◌, ◌++◌, map, filter, length, take, drop, get_or, Option, Some, is_some, refl, sym, ap, arith, length-append, append_assoc, append-nil}
use Rattle.std.specs.Prelude.{codes, if◌then◌else◌}
use Rattle.std.specs.Option.{option_map_or}
use Rattle.std.specs.List.{AllByRecursion}
use Rattle.std.specs.List.Sorted.{IsStrictlySortedBy}
use Rattle.std.specs.declared.cmp.Ordering.TheVariants.{Less}
use Rattle.std.proofs.lemmas.List.{take-append-drop, map-append, length-map}
use Rattle.std.proofs.lemmas.List.Elements.{filter_more}
use Rattle.ss_text.specs.Texts.{Text, text_cmp, text_eq}
use Rattle.ss_text.proofs.KeyLemmas.{text_order, equal_itself, equal_is, less_differs}
use Rattle.outside.specs.Tree.{Tree, files_of}
use Rattle.outside.specs.Effects.{Effect, Write, Remove}
use Rattle.schema_model.specs.Catalogue.{CatalogueValue}
use Rattle.flow_law.specs.declared.shape.Shape.{Shape}
use Rattle.flow_law.specs.Tables.{TableValue, TablesValue, labels_of, table_of}
use Rattle.flow_law.specs.InOrder.{AreTables}
use Rattle.view_meaning.specs.Meaning.{meaning, shape_of}
use Rattle.view_session.proofs.UpkeepLemmas.{meaning_in_order}
use Rattle.view_folder.specs.Files.{is_named, is_csv_name, file_name, other_names}
use Rattle.view_folder.specs.TableFiles.{table_file, table_files, table_text}
use Rattle.view_folder.specs.Sync.{has_table, tables_first, label_synced, later_sync, opening_sync, opening_count, written, removed}
use Rattle.view_folder.proofs.LaterLemmas.{same_file}
use Rattle.opened_view.proofs.ViewLemmas.{none_open}
use Rattle.view_stages.specs.Stages.{files_of_view}
use Rattle.view_stack.specs.Stands.{given_by}
use Rattle.stack_levels.specs.Levels.{tables_over}
use Rattle.stack_levels.specs.States.{LevelState, level_value, level_tables, views_of}
use Rattle.stack_answers.specs.Answers.{folder_effects}
use Rattle.stack_answers.specs.Folders.{label_in, is_other, opening_labels, level_folder, labels_at, planned_in, ArePlanned, folder_synced, folders_synced, label_count}
use Rattle.stack_answers.specs.Opening.{folders_opened, opening_sum}
use Rattle.stack_answers.specs.declared.folders.Plan.{Plan}

-- ---- filters
module _ {A : Type 0} (p : A → Bool) where
  kept : (xs ys : List A) → AllByRecursion (λ x. p x ≡ true) xs → AllByRecursion (λ x. p x ≡ false) ys → filter p (xs ++ ys) ≡ xs
  kept [] [] h k = refl
  kept [] (y ∷ ys) h k = rw k.0 (kept [] ys h k.1)
  kept (x ∷ xs) ys h k = rw h.0 (ap (λ (zs : List A). x ∷ zs) (kept xs ys h.1 k))

  left : (xs ys : List A) → AllByRecursion (λ x. p x ≡ true) xs → AllByRecursion (λ x. p x ≡ false) ys → filter (λ x. not (p x)) (xs ++ ys) ≡ ys
  left [] [] h k = refl
  left [] (y ∷ ys) h k = rw k.0 (ap (λ (zs : List A). y ∷ zs) (left [] ys h k.1))
  left (x ∷ xs) ys h k = rw h.0 (left xs ys h.1 k)

  -- a filter whose test is another's
  same_filter : (q : A → Bool) → ((x : A) → p x ≡ q x) → (xs : List A) → filter p xs ≡ filter q xs
  same_filter q same [] = refl
  same_filter q same (x ∷ xs) = ap (λ (b : Bool). cond b (x ∷ filter p xs) (filter p xs)) (same x) ∙ ap (λ (ys : List A). cond (q x) (x ∷ ys) ys) (same_filter q same xs)

-- ---- the labels of the tables
module _ (shape : Shape) (folder : Text) where
  -- each is found under its label
  above : (q : Text × TableValue) (ts rest : TablesValue) → AllByRecursion (λ m. text_cmp q.0 m ≡ Less) (labels_of rest) → AllByRecursion (λ (p : Text × TableValue). table_of ts p.0 ≡ Some p.1) rest
      → AllByRecursion (λ (p : Text × TableValue). table_of (q ∷ ts) p.0 ≡ Some p.1) rest
  above q ts [] h k = tt
  above q ts (p ∷ rest) h k = (ap (λ (b : Bool). cond b (Some q.1) (table_of ts p.0)) (less_differs text_order q.0 p.0 h.0) ∙ k.0, above q ts rest h.1 k.1)

  found : (ts : TablesValue) → IsStrictlySortedBy text_cmp (labels_of ts) → AllByRecursion (λ (p : Text × TableValue). table_of ts p.0 ≡ Some p.1) ts
  unfolding IsStrictlySortedBy
  found [] h = tt
  found (q ∷ ts) h = (ap (λ (b : Bool). cond b (Some q.1) (table_of ts q.0)) (equal_itself text_order q.0), above q ts ts h.0 (found ts h.1))

  have_tables : (ts rest : TablesValue) → AllByRecursion (λ (p : Text × TableValue). table_of ts p.0 ≡ Some p.1) rest → AllByRecursion (λ label. has_table ts label ≡ true) (labels_of rest)
  have_tables ts [] h = tt
  have_tables ts (p ∷ rest) h = (ap is_some h.0, have_tables ts rest h.1)

  labels_written : (ts rest : TablesValue) → AllByRecursion (λ (p : Text × TableValue). table_of ts p.0 ≡ Some p.1) rest → map (label_synced folder shape ts) (labels_of rest) ≡ written folder (map (table_file shape) rest)
  labels_written ts [] h = refl
  labels_written ts (p ∷ rest) h =
      ap (λ (o : Option TableValue). option_map_or (λ t. Write folder (file_name p.0) (table_text shape t)) o (Remove folder (file_name p.0)) ∷ map (label_synced folder shape ts) (labels_of rest)) h.0
      ∙ ap (λ (es : List Effect). Write folder (file_name p.0) (table_text shape p.1) ∷ es) (labels_written ts rest h.1)

-- ---- and those of the other files
-- a name that ends in `.csv` is the file of its label
named_csv : (name : Text) → is_csv_name name ≡ true → file_name (label_in name) ≡ name
named_csv name h = ap (λ (x : Text). take (length name - 4) name ++ x) (sym (equal_is text_order (drop (length name - 4) name) (codes ".csv") h)) ∙ take-append-drop (length name - 4) name

module _ (shape : Shape) (ts : TablesValue) where
  label_named : (rest : TablesValue) (label : Text) → is_named (map (table_file shape) rest) (file_name label) ≡ is_some (table_of rest label)
  label_named [] label = refl
  label_named (p ∷ rest) label = ap (λ (b : Bool). b || is_named (map (table_file shape) rest) (file_name label)) (same_file label p.0) ∙ either (text_eq label p.0) (label_named rest label)
    where
      either : (b : Bool) → is_named (map (table_file shape) rest) (file_name label) ≡ is_some (table_of rest label) → (b || is_named (map (table_file shape) rest) (file_name label)) ≡ is_some (cond b (Some p.1) (table_of rest label))
      either true h = refl
      either false h = h

  same_test : (name : Text) → is_other ts name ≡ (is_csv_name name && not (is_named (table_files shape ts) name))
  unfolding table_files
  same_test name = by_end (is_csv_name name) refl
    where
      by_end : (b : Bool) → is_csv_name name ≡ b → (b && not (has_table ts (label_in name))) ≡ (b && not (is_named (map (table_file shape) ts) name))
      by_end false e = refl
      by_end true e = ap not (sym (label_named ts (label_in name)) ∙ ap (is_named (map (table_file shape) ts)) (named_csv name e))

  others_are : (names : List Text) → filter (is_other ts) names ≡ other_names (table_files shape ts) names
  others_are names = same_filter (is_other ts) (λ name. is_csv_name name && not (is_named (table_files shape ts) name)) same_test names

  -- they have no table, and are removed
  others_lack : (names : List Text) → AllByRecursion (λ label. has_table ts label ≡ false) (map label_in (filter (is_other ts) names))
  others_lack [] = tt
  others_lack (name ∷ names) = by_table (is_csv_name name) (has_table ts (label_in name)) refl (others_lack names)
    where
      by_table : (a b : Bool) → has_table ts (label_in name) ≡ b → AllByRecursion (λ label. has_table ts label ≡ false) (map label_in (filter (is_other ts) names))
          → AllByRecursion (λ label. has_table ts label ≡ false) (map label_in (cond (a && not b) (name ∷ filter (is_other ts) names) (filter (is_other ts) names)))
      by_table false b e h = h
      by_table true true e h = h
      by_table true false e h = (e, h)

  others_removed : (folder : Text) (names : List Text) → map (label_synced folder shape ts) (map label_in (filter (is_other ts) names)) ≡ removed folder (filter (is_other ts) names)
  others_removed folder [] = refl
  others_removed folder (name ∷ names) = by_table (is_csv_name name) (has_table ts (label_in name)) refl refl (others_removed folder names)
    where
      by_table : (a b : Bool) → is_csv_name name ≡ a → has_table ts (label_in name) ≡ b → map (label_synced folder shape ts) (map label_in (filter (is_other ts) names)) ≡ removed folder (filter (is_other ts) names)
          → map (label_synced folder shape ts) (map label_in (cond (a && not b) (name ∷ filter (is_other ts) names) (filter (is_other ts) names)))
          ≡ removed folder (cond (a && not b) (name ∷ filter (is_other ts) names) (filter (is_other ts) names))
      by_table false b ends e h = h
      by_table true true ends e h = h
      by_table true false ends e h =
          ap (λ (o : Option TableValue). option_map_or (λ t. Write folder (file_name (label_in name)) (table_text shape t)) o (Remove folder (file_name (label_in name))) ∷ map (label_synced folder shape ts) (map label_in (filter (is_other ts) names))) (none_open (table_of ts (label_in name)) e)
          ∙ ap (λ (n : Text). Remove folder n ∷ map (label_synced folder shape ts) (map label_in (filter (is_other ts) names))) (named_csv name ends)
          ∙ ap (λ (es : List Effect). Remove folder name ∷ es) h

-- ---- the folder of a level
module _ (folder : Text) (shape : Shape) (ts : TablesValue) (ordered : AreTables ts) (names : List Text) where
  tables_are_first : tables_first ts (opening_labels ts names) ≡ opening_labels ts names
  tables_are_first =
      let have = have_tables shape folder ts ts (found shape folder ts ordered.labels) in
      let lack = others_lack shape ts names in
      ap (λ (xs : List Text). xs ++ filter (λ label. not (has_table ts label)) (opening_labels ts names)) (kept (has_table ts) (labels_of ts) (map label_in (filter (is_other ts) names)) have lack)
      ∙ ap (λ (xs : List Text). labels_of ts ++ xs) (left (has_table ts) (labels_of ts) (map label_in (filter (is_other ts) names)) have lack)

  pub opening_is : later_sync folder shape ts (opening_labels ts names) ≡ opening_sync folder (table_files shape ts) names
  unfolding table_files
  opening_is =
      ap (λ (ls : List Text). map (label_synced folder shape ts) ls) tables_are_first
      ∙ map-append (label_synced folder shape ts) (labels_of ts) (map label_in (filter (is_other ts) names))
      ∙ ap (λ (es : List Effect). es ++ map (label_synced folder shape ts) (map label_in (filter (is_other ts) names))) (labels_written shape folder ts ts (found shape folder ts ordered.labels))
      ∙ ap (λ (es : List Effect). written folder (map (table_file shape) ts) ++ es) (others_removed shape ts folder names ∙ ap (removed folder) (others_are shape ts names))

  pub opening_counts : length (opening_labels ts names) ≡ opening_count (table_files shape ts) names
  unfolding table_files
  opening_counts =
      length-append (labels_of ts) (map label_in (filter (is_other ts) names))
      ∙ ap (λ (n : ℕ). n + length (map label_in (filter (is_other ts) names))) (labels_long ts)
      ∙ ap (λ (n : ℕ). length (map (table_file shape) ts) + n) (length-map (filter (is_other ts) names) label_in ∙ ap length (others_are shape ts names))
    where
      labels_long : (rest : TablesValue) → length (labels_of rest) ≡ length (map (table_file shape) rest)
      labels_long [] = refl
      labels_long (p ∷ rest) = ap suc (labels_long rest)

-- ---- of all levels
module _ (t : Tree) where
  one_opened : (c : CatalogueValue) (l : LevelState) → level_tables l ≡ meaning c l.session.query → folder_synced l (labels_at t l) ≡ opening_sync (level_folder l) (files_of_view c l.session.query) (files_of t (level_folder l))
  unfolding files_of_view
  one_opened c l same =
      opening_is (level_folder l) (shape_of l.session.query) (level_tables l) (meaning_in_order l.session.catalogue l.session.query) (files_of t (level_folder l))
      ∙ ap (λ (ts : TablesValue). opening_sync (level_folder l) (table_files (shape_of l.session.query) ts) (files_of t (level_folder l))) same

  one_counted : (c : CatalogueValue) (l : LevelState) → level_tables l ≡ meaning c l.session.query → length (labels_at t l) ≡ opening_count (files_of_view c l.session.query) (files_of t (level_folder l))
  unfolding files_of_view
  one_counted c l same =
      opening_counts (level_folder l) (shape_of l.session.query) (level_tables l) (meaning_in_order l.session.catalogue l.session.query) (files_of t (level_folder l))
      ∙ ap (λ (ts : TablesValue). opening_count (table_files (shape_of l.session.query) ts) (files_of t (level_folder l))) same

  pub filled_effects : (c : CatalogueValue) (ls : List LevelState) → map level_tables ls ≡ tables_over c (views_of ls) → folders_synced ls (map (labels_at t) ls) ≡ folders_opened t c (views_of ls)
  filled_effects c [] same = refl
  filled_effects c (l ∷ ls) same =
      let first : level_tables l ≡ meaning c l.session.query = cc same in
      let rest : map level_tables ls ≡ tables_over (given_by c l.session.query) (views_of ls) = cc same in
      ap (λ (es : List Effect). es ++ folders_synced ls (map (labels_at t) ls)) (one_opened c l first)
      ∙ ap (λ (es : List Effect). opening_sync (level_folder l) (files_of_view c l.session.query) (files_of t (level_folder l)) ++ es) (filled_effects (given_by c l.session.query) ls rest)

  pub filled_count : (c : CatalogueValue) (ls : List LevelState) → map level_tables ls ≡ tables_over c (views_of ls) → label_count (map (labels_at t) ls) ≡ opening_sum t c (views_of ls)
  filled_count c [] same = refl
  filled_count c (l ∷ ls) same =
      let first : level_tables l ≡ meaning c l.session.query = cc same in
      let rest : map level_tables ls ≡ tables_over (given_by c l.session.query) (views_of ls) = cc same in
      ap (λ (n : ℕ). n + label_count (map (labels_at t) ls)) (one_counted c l first)
      ∙ ap (λ (n : ℕ). opening_count (files_of_view c l.session.query) (files_of t (level_folder l)) + n) (filled_count (given_by c l.session.query) ls rest)

-- ---- one more of the names that are listed
pub other_more : (ts : TablesValue) (names : List Text) (i : ℕ) (name : Text) (old new : List Text) → i < length names → name ≡ get_or names i name
    → old ≡ opening_labels ts (take i names) → new ≡ old ++ (if is_other ts name then label_in name ∷ [] else []) → new ≡ opening_labels ts (take (i + 1) names)
other_more ts names i name old new lt at are is =
    is
    ∙ ap (λ (xs : List Text). xs ++ cond (is_other ts name) (label_in name ∷ []) []) are
    ∙ append_assoc (labels_of ts) (map label_in (filter (is_other ts) (take i names))) (cond (is_other ts name) (label_in name ∷ []) [])
    ∙ ap (λ (xs : List Text). labels_of ts ++ xs) (by_case (is_other ts name) ∙ sym (map-append label_in (filter (is_other ts) (take i names)) (cond (is_other ts name) (name ∷ []) [])) ∙ ap (map label_in) (sym more))
  where
    more : filter (is_other ts) (take (i + 1) names) ≡ filter (is_other ts) (take i names) ++ cond (is_other ts name) (name ∷ []) []
    more = filter_more (is_other ts) names i name lt ∙ ap (λ (x : Text). filter (is_other ts) (take i names) ++ cond (is_other ts x) (x ∷ []) []) (sym at)

    by_case : (b : Bool) → map label_in (filter (is_other ts) (take i names)) ++ cond b (label_in name ∷ []) [] ≡ map label_in (filter (is_other ts) (take i names)) ++ map label_in (cond b (name ∷ []) [])
    by_case true = refl
    by_case false = refl

-- ---- plans behind others
pub none_planned : (told : Option Tree) (ls : List LevelState) (plans : List Plan) → length ls ≡ 0 → ArePlanned told ls plans plans
none_planned told [] plans none = record { more = []; are = sym (append-nil plans); many = refl; as_told = λ t h. refl }
none_planned told (l ∷ ls) plans none = absurd (omega (arith, none))

pub one_planned : (told mid : Option Tree) (ls above : List LevelState) (l : LevelState) (plan : Plan) (old put new : List Plan) → ls ≡ l ∷ above → mid ≡ told → put ≡ old ++ plan ∷ []
    → ((t : Tree) → told ≡ Some t → plan.labels.items ≡ labels_at t l) → ArePlanned mid above put new → ArePlanned told ls old new
one_planned told mid ls above l plan old put new split same puts own h =
    rw split (record {
      more = plan ∷ h.more;
      are = h.are ∙ ap (λ (ps : List Plan). ps ++ h.more) puts ∙ append_assoc old (plan ∷ []) h.more;
      many = ap suc h.many;
      as_told = λ t is.
          let first : plan.labels.items ≡ labels_at t l = own t is in
          let rest : planned_in h.more ≡ map (labels_at t) above = h.as_told t (same ∙ is) in
          (λ i. first i ∷ rest i);
    })

-- ---- the effects of the first level and of those above it
pub first_filled : (ls above : List LevelState) (l : LevelState) (plans rest : List Plan) (plan : Plan) (labels : List Text) → ls ≡ l ∷ above → plans ≡ plan ∷ rest → labels ≡ plan.labels.items
    → folders_synced ls (planned_in plans) ≡ folder_synced l labels ++ folders_synced above (planned_in rest)
first_filled ls above l plans rest plan labels split parted lent =
    (λ i. folders_synced (split i) (planned_in (parted i))) ∙ ap (λ (xs : List Text). folder_synced l xs ++ folders_synced above (planned_in rest)) (sym lent)

pub first_synced : (ls above : List LevelState) (l : LevelState) → ls ≡ l ∷ above
    → folder_effects (map level_value ls) (map level_tables ls) ≡ folder_synced l l.session.changed.labels ++ folder_effects (map level_value above) (map level_tables above)
first_synced ls above l split = (λ i. folder_effects (map level_value (split i)) (map level_tables (split i)))

pub none_synced : (ls : List LevelState) → length ls ≡ 0 → folder_effects (map level_value ls) (map level_tables ls) ≡ []
none_synced [] none = refl
none_synced (l ∷ ls) none = absurd (omega (arith, none))
