-- The files of a folder, one after the other, and the tables that they are.
use Rattle.std.proofs.Common.{◌≡◌, ◌∷◌, ◌++◌, ◌∙◌, [], ℕ, List, Bool, true, false, Option, Some, None, cond, refl, sym, ap, subst, append_assoc}
use Rattle.std.specs.Prelude.{fold, filter}
use Rattle.std.specs.List.Sorted.{IsStrictlySortedBy}
use Rattle.std.specs.Option.{option_or}
use Rattle.std.specs.Ordering.{match_ordering}
use Rattle.std.specs.BTreeMap.{insert_entry}
use Rattle.std.specs.declared.cmp.Ordering.{Ordering}
use Rattle.std.specs.declared.cmp.Ordering.TheVariants.{Less, Equal, Greater}
use Rattle.std.proofs.lemmas.List.Sums.{fold-append}
use Rattle.std.proofs.lemmas.List.{map-append}
use Rattle.ss_text.specs.Texts.{Text, text_cmp}
use Rattle.ss_text.proofs.GroupLemmas.{strict_front}
use Rattle.outside.specs.Tree.{Tree, file_at}
use Rattle.csv_catalog.specs.Loaded.{File, file_in, files_read, is_relation_file, label_of}
use Rattle.csv_catalog.specs.Records.{records_of}
use Rattle.csv_catalog.proofs.FilesLemmas.{or_nothing, cons_is}
use Rattle.flow_law.specs.declared.shape.Shape.{Shape}
use Rattle.flow_law.specs.Tables.{TableValue, TablesValue, labels_of}
use Rattle.view_folder.specs.declared.held.TablesFault.{TablesFault}
use Rattle.view_folder.specs.Records.{table_in, records_fault}
use Rattle.view_folder.specs.Held.{files_held, files_fault, with_file, KeysFit, AllKeysFit}

-- past files without a fault, and at one with a fault
module _ (shape : Shape) where
  fault_past : (xs ys : List File) → files_fault shape xs ≡ None → files_fault shape (xs ++ ys) ≡ files_fault shape ys
  unfolding files_fault
  fault_past [] ys e = refl
  fault_past (x ∷ xs) ys e = by_fault (records_fault shape x.0 x.1) (files_fault shape xs) (files_fault shape (xs ++ ys)) (fault_past xs ys) e
    where
      by_fault : (o here all : Option TablesFault) → (here ≡ None → all ≡ files_fault shape ys) → option_or o here ≡ None → option_or o all ≡ files_fault shape ys
      by_fault None here all rest e = rest e
      by_fault (Some f) here all rest e = absurd (cc)

  fault_at : (xs ys : List File) (f : TablesFault) → files_fault shape xs ≡ Some f → files_fault shape (xs ++ ys) ≡ Some f
  unfolding files_fault
  fault_at [] ys f e = absurd (cc)
  fault_at (x ∷ xs) ys f e = by_fault (records_fault shape x.0 x.1) (files_fault shape xs) (files_fault shape (xs ++ ys)) (fault_at xs ys f) e
    where
      by_fault : (o here all : Option TablesFault) → (here ≡ Some f → all ≡ Some f) → option_or o here ≡ Some f → option_or o all ≡ Some f
      by_fault None here all rest e = rest e
      by_fault (Some g) here all rest e = e

  fault_one : (file : File) → files_fault shape (file ∷ []) ≡ records_fault shape file.0 file.1
  unfolding files_fault
  fault_one file = or_nothing (records_fault shape file.0 file.1)

  none_held : (ts : TablesValue) (files : List File) → files ≡ [] → (files_fault shape files ≡ None) × (fold (with_file shape) ts files ≡ ts)
  unfolding files_fault
  none_held ts files e = rw e (refl, refl)

-- one name more
held_more : (t : Tree) (folder name : Text) (left : List Text) → files_held t folder (name ∷ left) ≡ files_held t folder (name ∷ []) ++ files_held t folder left
held_more t folder name left = by_name (is_relation_file name)
  where
    by_name : (b : Bool) → files_read t folder (cond b (name ∷ filter is_relation_file left) (filter is_relation_file left)) ≡ files_read t folder (cond b (name ∷ []) []) ++ files_read t folder (filter is_relation_file left)
    by_name true = cons_is (file_in t folder name) (files_read t folder (filter is_relation_file left))
    by_name false = refl

module _ (shape : Shape) (t : Tree) (folder name : Text) where
  abbrev One : List File
  One = files_held t folder (name ∷ [])

  -- a name that is no table's, and a file that is gone
  other_none : is_relation_file name ≡ false → One ≡ []
  other_none e = rw e refl

  missing_none : is_relation_file name ≡ true → None ≡ file_at t folder name → One ≡ []
  missing_none e gone = rw (e, ← gone) refl

  pub other_sound : is_relation_file name ≡ false → files_fault shape One ≡ None
  other_sound e = (none_held shape [] One (other_none e)).0

  pub missing_sound : is_relation_file name ≡ true → None ≡ file_at t folder name → files_fault shape One ≡ None
  missing_sound e gone = (none_held shape [] One (missing_none e gone)).0

  pub other_tables : (ts : TablesValue) → is_relation_file name ≡ false → fold (with_file shape) ts One ≡ ts
  other_tables ts e = (none_held shape ts One (other_none e)).1

  pub missing_tables : (ts : TablesValue) → is_relation_file name ≡ true → None ≡ file_at t folder name → fold (with_file shape) ts One ≡ ts
  missing_tables ts e gone = (none_held shape ts One (missing_none e gone)).1

  -- one that is there
  module _ (bytes : List ℕ) (is : is_relation_file name ≡ true) (there : Some bytes ≡ file_at t folder name) where
    one_there : One ≡ (name, records_of bytes) ∷ []
    one_there = rw (is, ← there) refl

    pub sound_file : records_fault shape name (records_of bytes) ≡ None → files_fault shape One ≡ None
    sound_file sound = ap (files_fault shape) one_there ∙ fault_one shape (name, records_of bytes) ∙ sound

    pub file_tables : (ts : TablesValue) → fold (with_file shape) ts One ≡ insert_entry text_cmp ts (label_of name) (table_in shape (records_of bytes))
    file_tables ts = ap (fold (with_file shape) ts) one_there

    pub refused_file : (f : TablesFault) → records_fault shape name (records_of bytes) ≡ Some f → files_fault shape One ≡ Some f
    refused_file f refused = ap (files_fault shape) one_there ∙ fault_one shape (name, records_of bytes) ∙ refused

-- a table more whose keys fit
pub keys_fit_with : (shape : Shape) (label : Text) (t : TableValue) (ts : TablesValue) → KeysFit shape t → AllKeysFit shape ts → AllKeysFit shape (insert_entry text_cmp ts label t)
keys_fit_with shape label t [] fits h = (fits, tt)
keys_fit_with shape label t (p ∷ ps) fits h = by_order (text_cmp label p.0) (keys_fit_with shape label t ps fits h.1)
  where
    by_order : (o : Ordering) → AllKeysFit shape (insert_entry text_cmp ps label t)
        → AllKeysFit shape (match_ordering o ((label, t) ∷ p ∷ ps) ((p.0, t) ∷ ps) (p ∷ insert_entry text_cmp ps label t))
    by_order Less rest = (fits, h)
    by_order Equal rest = (fits, h.1)
    by_order Greater rest = (h.0, rest)

module _ (shape : Shape) (t : Tree) (folder : Text) (names : List Text) where
  abbrev Held : List Text → List File
  Held left = files_held t folder left

  -- with these names left, what was read leads to what all files give
  pub record IsReading (left : List Text) (ts : TablesValue) : Type 0 where
    pub fault : files_fault shape (Held left) ≡ files_fault shape (Held names)
    pub tables : fold (with_file shape) ts (Held left) ≡ fold (with_file shape) [] (Held names)

  pub reading_starts : IsReading names []
  reading_starts = record { fault = refl; tables = refl }

  pub reading_more : (name : Text) (left : List Text) (ts us : TablesValue) → IsReading (name ∷ left) ts → files_fault shape (Held (name ∷ [])) ≡ None → us ≡ fold (with_file shape) ts (Held (name ∷ [])) → IsReading left us
  reading_more name left ts us h sound is =
      let more = held_more t folder name left in
      record {
        fault = sym (ap (files_fault shape) more ∙ fault_past shape (Held (name ∷ [])) (Held left) sound) ∙ h.fault;
        tables = ap (λ (vs : TablesValue). fold (with_file shape) vs (Held left)) is ∙ sym (ap (fold (with_file shape) ts) more ∙ fold-append (with_file shape) ts (Held (name ∷ [])) (Held left)) ∙ h.tables;
      }

  pub reading_refused : (name : Text) (left : List Text) (ts : TablesValue) (f : TablesFault) → IsReading (name ∷ left) ts → files_fault shape (Held (name ∷ [])) ≡ Some f → files_fault shape (Held names) ≡ Some f
  reading_refused name left ts f h refused = sym h.fault ∙ ap (files_fault shape) (held_more t folder name left) ∙ fault_at shape (Held (name ∷ [])) (Held left) f refused

  pub reading_done : (left : List Text) (ts : TablesValue) → left ≡ [] → IsReading left ts → (files_fault shape (Held names) ≡ None) × (ts ≡ fold (with_file shape) [] (Held names))
  unfolding files_fault
  reading_done left ts none h = let r = rw none at h in (sym r.fault, r.tables)

-- the next of tables in order stands behind those before it
pub label_behind : (front : TablesValue) (label : Text) (t : TableValue) (back all : TablesValue) → front ++ (label, t) ∷ back ≡ all → IsStrictlySortedBy text_cmp (labels_of all) → IsStrictlySortedBy text_cmp (labels_of front ++ label ∷ [])
label_behind front label t back all e h =
    let p : Text × TableValue = (label, t) in
    let parts = map-append (λ (q : Text × TableValue). q.0) front (p ∷ back) ∙ sym (append_assoc (labels_of front) (label ∷ []) (labels_of back)) in
    strict_front text_cmp (labels_of front ++ label ∷ []) (labels_of back) (subst (IsStrictlySortedBy text_cmp) parts (subst (λ (ts : TablesValue). IsStrictlySortedBy text_cmp (labels_of ts)) (sym e) h))
