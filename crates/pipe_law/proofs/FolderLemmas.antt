-- A folder that holds the files of tables is read as these tables.
use Rattle.std.proofs.Common.{◌≡◌, ◌≢◌, ◌∷◌, ◌∙◌, [], ℕ, List, Bool, true, false, ◌&&◌, ◌||◌, Option, Some, None, is_some, cond, refl, sym, ap, subst, length, map, arith}
use Rattle.std.specs.Prelude.{fold, filter, option_map, unwrap_or, Ok}
use Rattle.std.specs.BTreeMap.{insert_entry}
use Rattle.std.specs.List.{AllByRecursion, list_all, cons_option}
use Rattle.std.specs.List.Sorted.{IsStrictlySortedBy}
use Rattle.std.specs.Option.{option_or}
use Rattle.std.specs.Ordering.{match_ordering}
use Rattle.std.specs.declared.cmp.Ordering.TheVariants.{Less, Equal, Greater}
use Rattle.std.proofs.lemmas.Bool.{and_parts, true≢false, and_from}
use Rattle.ss_text.specs.Texts.{Text, Row, text_cmp, text_eq, is_in}
use Rattle.ss_text.proofs.KeyLemmas.{text_order, equal_is, greater_turned, greater_differs}
use Rattle.ss_text.proofs.PairLemmas.{same_pairs, each_found}
use Rattle.outside.specs.Tree.{Tree, file_at, files_of}
use Rattle.csv_catalog.specs.Loaded.{File, files_read, is_relation_file, label_of}
use Rattle.csv_catalog.specs.RecordText.{has_field, starts_with_bom}
use Rattle.csv_catalog.specs.Records.{records_of}
use Rattle.csv_catalog.proofs.RoundTrip.{reads_back}
use Rattle.flow_law.specs.declared.shape.Shape.{Shape}
use Rattle.flow_law.specs.InOrder.{IsTable, AreTables}
use Rattle.flow_law.specs.Tables.{TableValue, TablesValue, labels_of, table_of}
use Rattle.change_script.specs.Fits.{IsForm, TableFits, TablesFit}
use Rattle.view_folder.specs.Files.{file_name}
use Rattle.view_folder.specs.Forms.{HasForm}
use Rattle.view_folder.specs.Held.{files_fault, held, unless_refused, with_file}
use Rattle.view_folder.specs.Records.{records_fault, table_in}
use Rattle.view_folder.specs.Sync.{Holds}
use Rattle.view_folder.specs.TableFiles.{table_files, table_records, table_text}
use Rattle.flow_law.specs.Records.{spliced}
use Rattle.view_folder.proofs.FolderLemmas.{there}
use Rattle.view_folder.proofs.FormLemmas.{written_sound, written_read}
use Rattle.view_folder.proofs.LaterLemmas.{file_name_csv, same_file, bytes_of_label}
use Rattle.view_folder.proofs.TableFileLemmas.{spliced_some}
use Rattle.source_law.proofs.FileLemmas.{file_parts, file_test}
use Rattle.source_law.proofs.NamedLemmas.{in_kept}
use Rattle.pipe_law.specs.Law.{HavePlainHeaders, TablesReadBack}

abbrev Ascend : TablesValue → Type 0
Ascend ts = IsStrictlySortedBy text_cmp (labels_of ts)

-- a table that is put at the place of its label
module _ (label : Text) (t : TableValue) where
  abbrev Below : Text → TablesValue → Type 0
  Below k ts = AllByRecursion (λ l. text_cmp k l ≡ Less) (labels_of ts)

  below_put : (k : Text) (ts : TablesValue) → text_cmp k label ≡ Less → Below k ts → Below k (insert_entry text_cmp ts label t)
  below_put k [] lt h = (lt, tt)
  below_put k (p ∷ ps) lt h =
      elim (text_cmp label p.0) as (λ o. Below k (match_ordering o ((label, t) ∷ p ∷ ps) ((p.0, t) ∷ ps) (p ∷ insert_entry text_cmp ps label t)))
      [ Less ↦ (lt, h) | Equal ↦ h | Greater ↦ (h.0, below_put k ps lt h.1) ]

  below_more : (j k : Text) (ts : TablesValue) → text_cmp j k ≡ Less → Below k ts → Below j ts
  below_more j k [] lt h = tt
  below_more j k (p ∷ ps) lt h = (text_order.total.trans j k p.0 lt h.0, below_more j k ps lt h.1)

  put_ascends : (ts : TablesValue) → Ascend ts → Ascend (insert_entry text_cmp ts label t)
  unfolding IsStrictlySortedBy
  put_ascends [] h = (tt, tt)
  put_ascends (p ∷ ps) h =
      elim (text_cmp label p.0) as (λ o. text_cmp label p.0 ≡ o → Ascend (match_ordering o ((label, t) ∷ p ∷ ps) ((p.0, t) ∷ ps) (p ∷ insert_entry text_cmp ps label t))) [
        | Less ↦ λ e. ((e, below_more label p.0 ps e h.0), h)
        | Equal ↦ λ _. h
        | Greater ↦ λ e. (below_put p.0 ps (greater_turned text_order label p.0 e) h.0, put_ascends ps h.1)
      ] refl

  put_found : (q : Text) (ts : TablesValue) → table_of (insert_entry text_cmp ts label t) q ≡ cond (text_eq q label) (Some t) (table_of ts q)
  put_found q [] = refl
  put_found q (p ∷ ps) =
      elim (text_cmp label p.0) as (λ o. text_cmp label p.0 ≡ o → table_of (match_ordering o ((label, t) ∷ p ∷ ps) ((p.0, t) ∷ ps) (p ∷ insert_entry text_cmp ps label t)) q ≡ cond (text_eq q label) (Some t) (table_of (p ∷ ps) q)) [
        | Less ↦ λ _. refl
        | Equal ↦ λ e. alike (text_eq q p.0) (ap (text_eq q) (text_order.same label p.0 e))
        | Greater ↦ λ e. ap (cond (text_eq q p.0) (Some p.1)) (put_found q ps) ∙ turned (text_eq q label) (text_eq q p.0) refl refl (greater_differs text_order label p.0 e)
      ] refl
    where
      alike : (b : Bool) → text_eq q label ≡ b → cond b (Some t) (table_of ps q) ≡ cond (text_eq q label) (Some t) (cond b (Some p.1) (table_of ps q))
      alike true e = rw e refl
      alike false e = rw e refl

      turned : (a b : Bool) → text_eq q label ≡ a → text_eq q p.0 ≡ b → text_eq p.0 label ≡ false → cond b (Some p.1) (cond a (Some t) (table_of ps q)) ≡ cond a (Some t) (cond b (Some p.1) (table_of ps q))
      turned true true e f apart = absurd (true≢false (sym e ∙ ap (λ (x : Text). text_eq x label) (equal_is text_order q p.0 f) ∙ apart))
      turned true false e f apart = refl
      turned false true e f apart = refl
      turned false false e f apart = refl

-- what holds of each of the tables holds of the one of a label
same_one : (x y : TableValue) → Some x ≡ Some y → x ≡ y
same_one x y e = ap (λ o. unwrap_or o x) e

found : (P : Text → TableValue → Type 0) (q : Text) (t : TableValue) (ts : TablesValue) → AllByRecursion (λ (p : Text × TableValue). P p.0 p.1) ts → table_of ts q ≡ Some t → P q t
found P q t [] each e = absurd (cc)
found P q t (p ∷ ps) each e = by_test (text_eq q p.0) refl (found P q t ps each.1) e
  where
    by_test : (b : Bool) → text_eq q p.0 ≡ b → (table_of ps q ≡ Some t → P q t) → cond b (Some p.1) (table_of ps q) ≡ Some t → P q t
    by_test true s rest e = subst (λ (u : TableValue). P q u) (same_one p.1 t e) (subst (λ (l : Text). P l p.1) (sym (equal_is text_order q p.0 s)) each.0)
    by_test false s rest e = rest e

-- records of tables have fields
some_field : (row : Row) → row ≢ [] → has_field row ≡ true
some_field [] some = absurd (some refl)
some_field (field ∷ fields) some = refl

empty : (row : Row) → length row ≡ 0 → row ≡ []
empty [] e = refl
empty (field ∷ fields) e = absurd (omega (arith, e))

module _ (shape : Shape) (some : shape.constants ≢ []) where
  some_key : (key : Row) → length key ≡ length shape.constants → key ≢ []
  some_key key e none = some (empty shape.constants (sym e ∙ ap (λ (r : Row). length r) none))

  rows_with_fields : (rows : List (Row × Row)) → AllByRecursion (λ (r : Row × Row). length r.0 ≡ length shape.constants) rows → list_all has_field (map (λ (r : Row × Row). spliced shape.spot r.0 r.1) rows) ≡ true
  rows_with_fields [] h = refl
  rows_with_fields (r ∷ rs) h = rw (some_field (spliced shape.spot r.0 r.1) (spliced_some shape.spot r.0 r.1 (some_key r.0 h.0)), rows_with_fields rs h.1) refl

  records_with_fields : (t : TableValue) → AllByRecursion (λ (r : Row × Row). length r.0 ≡ length shape.constants) t.rows → list_all has_field (table_records shape t) ≡ true
  records_with_fields t h = rw (some_field (spliced shape.spot shape.constants t.columns) (spliced_some shape.spot shape.constants t.columns some), rows_with_fields t.rows h) refl

-- where a folder holds the files of these tables
module _ (shape : Shape) (ts : TablesValue) (folder : Text) (t : Tree) (form : IsForm shape) (some : shape.constants ≢ []) (in_order : AreTables ts) (fits : TablesFit shape ts) (plain : HavePlainHeaders shape ts)
    (holds : Holds folder (table_files shape ts) t) where
  file_of : (label : Text) → file_at t folder (file_name label) ≡ option_map (table_text shape) (table_of ts label)
  file_of label = holds (file_name label) (file_name_csv label) ∙ bytes_of_label shape ts label

  -- a table of them, and the records of its file
  module _ (label : Text) (one : TableValue) (is : table_of ts label ≡ Some one) where
    fit : TableFits shape label one
    fit = found (TableFits shape) label one ts fits is

    has_form : HasForm shape one
    has_form = record { in_order = found (λ l u. IsTable u) label one ts in_order.tables is; columns = fit.columns; spot = fit.spot; keys = fit.keys }

    records_back : records_of (table_text shape one) ≡ table_records shape one
    unfolding table_text
    records_back = reads_back (table_records shape one) (records_with_fields shape some one fit.keys) (found (λ l u. starts_with_bom (table_records shape u) ≡ false) label one ts plain is)

    table_back : table_in shape (records_of (table_text shape one)) ≡ one
    table_back = ap (table_in shape) records_back ∙ written_read shape form one has_form

    no_fault : (file : Text) → records_fault shape file (records_of (table_text shape one)) ≡ None
    no_fault file = ap (records_fault shape file) records_back ∙ written_sound shape form one has_form file

  -- a file of the folder is that of one of them
  record IsFileOf (file : Text) (bytes : List ℕ) : Type 0 where
    one : TableValue
    found_so : table_of ts (label_of file) ≡ Some one
    text : bytes ≡ table_text shape one

  file_is : (file : Text) (bytes : List ℕ) → is_relation_file file ≡ true → file_at t folder file ≡ Some bytes → IsFileOf file bytes
  file_is file bytes legal e = by_table (table_of ts (label_of file)) refl (sym (sym (ap (file_at t folder) (file_parts file legal) ∙ file_of (label_of file)) ∙ e))
    where
      by_table : (o : Option TableValue) → table_of ts (label_of file) ≡ o → Some bytes ≡ option_map (table_text shape) (table_of ts (label_of file)) → IsFileOf file bytes
      by_table None is h = absurd (some_none (h ∙ ap (option_map (table_text shape)) is))
        where
          some_none : Some bytes ≡ None → ⊥
          some_none e = cc e
      by_table (Some one) is h = record { one = one; found_so = is; text = ap (λ o. unwrap_or o bytes) (h ∙ ap (option_map (table_text shape)) is) }

  abbrev IsThere : Text → Type 0
  IsThere file = (is_relation_file file ≡ true) × (is_some (file_at t folder file) ≡ true)

  none_some : (o : Option (List ℕ)) → o ≡ None → is_some o ≡ true → ⊥
  none_some o e h = true≢false (sym h ∙ ap is_some e)

  -- no file has a fault
  files_sound : (files : List Text) → AllByRecursion IsThere files → files_fault shape (files_read t folder files) ≡ None
  unfolding files_fault
  files_sound [] h = refl
  files_sound (f ∷ fs) h = by_file (file_at t folder f) refl (files_sound fs h.1)
    where
      by_file : (o : Option (List ℕ)) → file_at t folder f ≡ o → files_fault shape (files_read t folder fs) ≡ None → files_fault shape (cons_option (option_map (λ (bytes : List ℕ). (f, records_of bytes)) o) (files_read t folder fs)) ≡ None
      by_file None e rest = rest
      by_file (Some bytes) e rest =
          let one = file_is f bytes h.0.0 e in
          ap (λ (b : List ℕ). option_or (records_fault shape f (records_of b)) (files_fault shape (files_read t folder fs))) one.text
          ∙ ap (λ o. option_or o (files_fault shape (files_read t folder fs))) (no_fault (label_of f) one.one one.found_so f) ∙ rest

  -- the tables of these files, and those before them
  files_found : (files : List Text) (before : TablesValue) (q : Text) → AllByRecursion IsThere files → table_of (fold (with_file shape) before (files_read t folder files)) q ≡ cond (is_in (file_name q) files) (table_of ts q) (table_of before q)
  files_found [] before q h = refl
  files_found (f ∷ fs) before q h = by_file (file_at t folder f) refl (λ us. files_found fs us q h.1)
    where
      by_label : (one : TableValue) → table_of ts (label_of f) ≡ Some one → (a b : Bool) → text_eq q (label_of f) ≡ b → cond a (table_of ts q) (cond b (Some one) (table_of before q)) ≡ cond (b || a) (table_of ts q) (table_of before q)
      by_label one is true true e = refl
      by_label one is false true e = sym (ap (table_of ts) (equal_is text_order q (label_of f) e) ∙ is)
      by_label one is a false e = refl

      same_name : text_eq (file_name q) f ≡ text_eq q (label_of f)
      same_name = ap (text_eq (file_name q)) (file_parts f h.0.0) ∙ same_file q (label_of f)

      by_file : (o : Option (List ℕ)) → file_at t folder f ≡ o
          → ((us : TablesValue) → table_of (fold (with_file shape) us (files_read t folder fs)) q ≡ cond (is_in (file_name q) fs) (table_of ts q) (table_of us q))
          → table_of (fold (with_file shape) before (cons_option (option_map (λ (bytes : List ℕ). (f, records_of bytes)) o) (files_read t folder fs))) q ≡ cond (text_eq (file_name q) f || is_in (file_name q) fs) (table_of ts q) (table_of before q)
      by_file None e rest = absurd (none_some (file_at t folder f) e h.0.1)
      by_file (Some bytes) e rest =
          let one = file_is f bytes h.0.0 e in
          let read : table_in shape (records_of bytes) ≡ one.one = ap (λ (b : List ℕ). table_in shape (records_of b)) one.text ∙ table_back (label_of f) one.one one.found_so in
          rest (insert_entry text_cmp before (label_of f) (table_in shape (records_of bytes)))
          ∙ ap (cond (is_in (file_name q) fs) (table_of ts q)) (put_found (label_of f) (table_in shape (records_of bytes)) q before ∙ ap (λ (u : TableValue). cond (text_eq q (label_of f)) (Some u) (table_of before q)) read)
          ∙ by_label one.one one.found_so (is_in (file_name q) fs) (text_eq q (label_of f)) refl
          ∙ ap (λ b. cond (b || is_in (file_name q) fs) (table_of ts q) (table_of before q)) (sym same_name)

  files_ascend : (files : List File) (before : TablesValue) → Ascend before → Ascend (fold (with_file shape) before files)
  files_ascend [] before h = h
  files_ascend (f ∷ fs) before h = files_ascend fs (with_file shape before f) (put_ascends (label_of f.0) (table_in shape f.1) before h)

  abbrev names : List Text
  names = filter is_relation_file (files_of t folder)

  among : (q : Text) → is_in q names ≡ (is_relation_file q && is_some (file_at t folder q))
  among q = in_kept is_relation_file q (files_of t folder) ∙ ap (λ b. is_relation_file q && b) (there t folder q)

  all_there : AllByRecursion IsThere names
  all_there = each_found text_order IsThere names (λ q h. and_parts (is_relation_file q) (is_some (file_at t folder q)) (sym (among q) ∙ h))

  all_found : (q : Text) → cond (is_in (file_name q) names) (table_of ts q) None ≡ table_of ts q
  all_found q = by_table (table_of ts q) refl
    where
      either : (b : Bool) → ◌≡◌ {A = Option TableValue} (cond b None None) None
      either true = refl
      either false = refl

      by_table : (o : Option TableValue) → table_of ts q ≡ o → cond (is_in (file_name q) names) o None ≡ o
      by_table None e = either (is_in (file_name q) names)
      by_table (Some one) e =
          let legal = file_test q ∙ (fit q one e).legal in
          let held_so = ap is_some (file_of q ∙ ap (option_map (table_text shape)) e) in
          ap (λ b. cond b (Some one) None) (among (file_name q) ∙ and_from (is_relation_file (file_name q)) (is_some (file_at t folder (file_name q))) legal held_so)

  none_ascend : Ascend []
  unfolding IsStrictlySortedBy
  none_ascend = tt

  pub read_back : held shape t folder ≡ Ok ts
  unfolding held
  read_back =
      ap (λ o. unless_refused o (fold (with_file shape) [] (files_read t folder names))) (files_sound names all_there)
      ∙ ap Ok (same_pairs text_order (fold (with_file shape) [] (files_read t folder names)) ts (files_ascend (files_read t folder names) [] none_ascend) in_order.labels (λ q. files_found names [] q all_there ∙ all_found q))

pub tables_read_back : TablesReadBack
tables_read_back shape ts folder t form some in_order fits plain holds = read_back shape ts folder t form some in_order fits plain holds
