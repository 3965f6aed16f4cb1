-- The records of rows on shelves, and the files of the tables of slots.
use Rattle.std.proofs.Common.{◌≡◌, ◌≢◌, ◌∙◌, ◌<◌, ◌+◌, ◌∷◌, ◌++◌, [], ℕ, List, Vec, Global, Option, None, Some, refl, sym, ap, subst, length, map, take, get_or, append_assoc, append-nil}
use Rattle.std.specs.List.{AllByRecursion}
use Rattle.std.proofs.lemmas.List.{take_more, map-append}
use Rattle.ss_text.specs.Texts.{Row}
use Rattle.ss_text.proofs.PlaceLemmas.{each_at}
use Rattle.csv_catalog.specs.RecordText.{csv_text, record_text}
use Rattle.flow_law.specs.declared.shape.Shape.{Shape}
use Rattle.flow_law.specs.Tables.{TableValue, TablesValue}
use Rattle.row_shelves.specs.Stocks.{Stock, row_of, rows_of}
use Rattle.row_shelves.specs.Shelves.{on_shelf, all_rows}
use Rattle.row_shelves.proofs.SameLemmas.{on_shelf_all}
use Rattle.kept_tables.specs.Kept.{KeptTableValue}
use Rattle.kept_tables.specs.declared.slot.Held.{Held as Slot}
use Rattle.kept_tables.specs.Slots.{slot_label, table_there, tables_in}
use Rattle.kept_tables.proofs.ThereLemmas.{tables_more, none_there, one_there}
use Rattle.view_folder.specs.declared.file.File.{File}
use Rattle.view_folder.specs.TableFiles.{table_text, table_file, table_files}
use Rattle.flow_law.specs.Records.{spliced, row_records}

csv_joined : (front back : List Row) → csv_text (front ++ back) ≡ csv_text front ++ csv_text back
unfolding csv_text
csv_joined [] back = refl
csv_joined (row ∷ front) back = ap (λ t. record_text row ++ t) (csv_joined front back) ∙ sym (append_assoc (record_text row) (csv_text front) (csv_text back))

-- the key of a row of a shelf, and those of a shelf, have a text
pub row_keyed : (rows : List Stock) (i : ℕ) (r : Stock) → i < length rows → r ≡ get_or rows i r → AllByRecursion (λ (x : Stock). x.key ≢ []) rows → r.key ≢ []
row_keyed rows i r lt is h = subst (λ (x : Stock). x.key ≢ []) (sym is) (each_at (λ (x : Stock). x.key ≢ []) rows i r lt h)

pub shelf_keyed : (shelves : List (Vec Stock Global)) (i : ℕ) (s : Vec Stock Global) (rows : List Stock) → i < length shelves → s ≡ get_or shelves i s → rows ≡ s.items
    → AllByRecursion (λ (x : Stock). x.key ≢ []) (all_rows shelves) → AllByRecursion (λ (x : Stock). x.key ≢ []) rows
shelf_keyed shelves i s rows lt is e h =
    subst (AllByRecursion (λ (x : Stock). x.key ≢ [])) (sym (e ∙ ap (λ (x : Vec Stock Global). x.items) is)) (on_shelf_all on_shelf (λ (x : Stock). x.key ≢ []) shelves i s lt h)

-- the records of rows, and of more behind them
module _ (spot : Option ℕ) where
  abbrev pub text_of : List Stock → List ℕ
  text_of rows = csv_text (row_records spot (rows_of rows))

  pub none_written : (base : List ℕ) → base ≡ base ++ text_of []
  unfolding csv_text
  none_written base = sym (append-nil base)

  text_joined : (front back : List Stock) → text_of (front ++ back) ≡ text_of front ++ text_of back
  text_joined front back =
      ap (λ rs. csv_text (row_records spot rs)) (map-append row_of front back)
      ∙ ap csv_text (map-append (λ (r : Row × Row). spliced spot r.0 r.1) (rows_of front) (rows_of back))
      ∙ csv_joined (row_records spot (rows_of front)) (row_records spot (rows_of back))

  more : (base text new : List ℕ) (front back : List Stock) → text ≡ base ++ text_of front → new ≡ text ++ text_of back → new ≡ base ++ text_of (front ++ back)
  more base text new front back so_far added =
      added ∙ ap (λ t. t ++ text_of back) so_far ∙ append_assoc base (text_of front) (text_of back) ∙ ap (λ t. base ++ t) (sym (text_joined front back))

  text_one : (r : Stock) → record_text (spliced spot r.key r.cells) ≡ text_of (r ∷ [])
  unfolding csv_text
  text_one r = sym (append-nil (record_text (spliced spot r.key r.cells)))

  -- one more row of a shelf
  pub row_written : (base text new : List ℕ) (rows : List Stock) (i : ℕ) (r : Stock) (key cells : Row) → i < length rows → r ≡ get_or rows i r → key ≡ r.key → cells ≡ r.cells
      → text ≡ base ++ text_of (take i rows) → new ≡ text ++ record_text (spliced spot key cells) → new ≡ base ++ text_of (take (i + 1) rows)
  row_written base text new rows i r key cells lt is k c so_far added =
      let one = added ∙ ap (λ (x : Row). text ++ record_text (spliced spot x cells)) k ∙ ap (λ (x : Row). text ++ record_text (spliced spot r.key x)) c ∙ ap (λ t. text ++ t) (text_one r) in
      more base text new (take i rows) (r ∷ []) so_far one
      ∙ ap (λ (rs : List Stock). base ++ text_of rs) (ap (λ (x : Stock). take i rows ++ x ∷ []) is ∙ sym (take_more rows i r lt))

  -- one more shelf
  pub shelf_written : (base text new : List ℕ) (shelves : List (Vec Stock Global)) (i : ℕ) (s : Vec Stock Global) (rows : List Stock) → i < length shelves → s ≡ get_or shelves i s → rows ≡ s.items
      → text ≡ base ++ text_of (all_rows (take i shelves)) → new ≡ text ++ text_of rows → new ≡ base ++ text_of (all_rows (take (i + 1) shelves))
  shelf_written base text new shelves i s rows lt is e so_far added =
      more base text new (all_rows (take i shelves)) rows so_far added
      ∙ ap (λ (rs : List Stock). base ++ text_of rs)
      (ap (λ rs. all_rows (take i shelves) ++ rs) (e ∙ sym (append-nil s.items)) ∙ sym (shelves_joined (take i shelves) (s ∷ []))
      ∙ ap all_rows (ap (λ (x : Vec Stock Global). take i shelves ++ x ∷ []) is ∙ sym (take_more shelves i s lt)))
    where
      shelves_joined : (ss ts : List (Vec Stock Global)) → all_rows (ss ++ ts) ≡ all_rows ss ++ all_rows ts
      shelves_joined [] ts = refl
      shelves_joined (s ∷ ss) ts = ap (λ rs. s.items ++ rs) (shelves_joined ss ts) ∙ sym (append_assoc s.items (all_rows ss) (all_rows ts))

-- the text of a table is that of its header, and of its rows behind it
pub whole_text : (shape : Shape) (t : TableValue) (columns : Row) (rows : List Stock) (none one all : List ℕ) → columns ≡ t.columns → rows_of rows ≡ t.rows
    → none ≡ [] → one ≡ none ++ record_text (spliced shape.spot shape.constants columns) → all ≡ one ++ csv_text (row_records shape.spot (rows_of rows)) → all ≡ table_text shape t
unfolding table_text csv_text
whole_text shape t columns rows none one all c r n o a =
    a ∙ ap (λ (rs : List (Row × Row)). one ++ csv_text (row_records shape.spot rs)) r
    ∙ ap (λ (x : List ℕ). x ++ csv_text (row_records shape.spot t.rows))
    (o ∙ ap (λ (x : List ℕ). x ++ record_text (spliced shape.spot shape.constants columns)) n ∙ ap (λ (x : Row). record_text (spliced shape.spot shape.constants x)) c)

-- one more file
pub files_more : (shape : Shape) (slots : List Slot) (i : ℕ) (s : Slot) (files new : List File) → i < length slots → s ≡ get_or slots i s → files ≡ table_files shape (tables_in (take i slots))
    → new ≡ files ++ table_files shape (tables_in (s ∷ [])) → new ≡ table_files shape (tables_in (take (i + 1) slots))
unfolding table_files
files_more shape slots i s files new lt is so_far added =
    added ∙ ap (λ (fs : List File). fs ++ table_files shape (tables_in (s ∷ []))) so_far
    ∙ sym (map-append (table_file shape) (tables_in (take i slots)) (tables_in (s ∷ []))) ∙ ap (table_files shape) (sym (tables_more slots i s lt is))

-- the file of a slot, if its table is there
pub no_file : (shape : Shape) (s : Slot) (files : List File) → None ≡ table_there s → files ≡ files ++ table_files shape (tables_in (s ∷ []))
unfolding table_files
no_file shape s files none = sym (append-nil files) ∙ ap (λ (ts : TablesValue). files ++ map (table_file shape) ts) (sym (none_there s (sym none)))

pub one_file : (shape : Shape) (s : Slot) (t : KeptTableValue) → Some t ≡ table_there s → table_file shape (slot_label s, t.table) ∷ [] ≡ table_files shape (tables_in (s ∷ []))
unfolding table_files
one_file shape s t some = ap (λ (ts : TablesValue). map (table_file shape) ts) (sym (one_there s t (sym some)))
