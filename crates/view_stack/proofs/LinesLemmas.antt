-- A database that says what tables say, says it after lines that fit them.
use Rattle.std.proofs.Common.{◌≡◌, ◌∙◌, Bool, true, false, cond, ◌&&◌, ◌||◌, not, List, [], ◌∷◌, ◌++◌, Option, Some, None, map, refl, sym, ap, subst}
use Rattle.std.specs.Prelude.{remove, unwrap_or, option_map, option_and_then}
use Rattle.std.specs.List.{position_or_len}
use Rattle.std.specs.Option.{option_map_or}
use Rattle.ss_text.specs.Texts.{Text, Row, text_eq, row_eq, text_cmp, is_in}
use Rattle.ss_text.specs.Places.{changed_where}
use Rattle.std.specs.declared.cmp.Ordering.{Ordering}
use Rattle.std.specs.declared.cmp.Ordering.TheVariants.{Less, Equal, Greater}
use Rattle.std.specs.Ordering.{is_eq}
use Rattle.ss_text.proofs.PairLemmas.{turned}
use Rattle.ss_text.proofs.KeyLemmas.{text_order, place_there, place_missing}
use Rattle.ss_text.proofs.PairLemmas.{lookup_changed}
use Rattle.flow_law.specs.Tables.{TableValue, TablesValue, empty_table, table_of, label_in, cell_of}
use Rattle.flow_law.specs.InOrder.{AreTables}
use Rattle.flow_law.specs.Lines.{label_of, without_row, with_row, without_column, with_column, with_cell, table_after, at_table, without_table, with_table, after_line, after_lines, has_row, has_column, has_table, fits_table, fits_label, fits_line, fit_lines}
use Rattle.flow_law.specs.declared.line.TableLine.{TableLine}
use Rattle.flow_law.specs.declared.line.TableLine.TheVariants.{TableMinus, TablePlus, RowMinus, ColumnMinus, ColumnPlus, RowPlus, Cell}
use Rattle.flow_law.proofs.TableLemmas.{line_in_order}
use Rattle.flow_law.proofs.ScriptLaw.{found_in_order, changed_in_order}
use Rattle.flow_law.proofs.LabelLemmas.{table_removed, table_removed_in_order, table_placed, table_placed_in_order}
use Rattle.schema_model.specs.Catalogue.{RelationValue, DatabaseValue, CatalogueValue, relation_value, database_value, attributes_of, database_of, relation_in}
use Rattle.schema_model.specs.Catalogue.{with_row as put_row}
use Rattle.schema_model.specs.Changes.{less_row, with_attribute, less_attribute, placed, without, with_relations, at_database, after, after_all, at_relation, at_relation_in}
use Rattle.schema_model.specs.declared.change.Change.{Change}
use Rattle.schema_model.specs.declared.change.Change.TheVariants.{Insert, Delete}
use Rattle.view_meaning.proofs.OrderLemmas.{same_bytes, bytes_same, rows_same}
use Rattle.view_stack.specs.Records.{text_of, record_of, front_cells, text_after, record_after}
use Rattle.view_stack.specs.Lifted.{lifted_line, row_of, goes_on, table_at, names_after, names_of}
use Rattle.view_stack.proofs.SaysLemmas.{Distinct, Says, in_upper, row_went, column_added, column_dropped, and_first, and_second, not_true, or_right}
use Rattle.view_stack.proofs.MovedLemmas.{AreSaid, whole, said_changed, said_without, said_placed, cells_after, cells_said, row_said, HasColumns, relation_at}

-- ---- tables stay in order
-- the table of a line that fits
pub record Found (ts : TablesValue) (line : TableLine) : Type 0 where
  pub table : TableValue
  pub found : table_of ts (label_of line) ≡ Some table
  pub fits : fits_table line table ≡ true

pub found_table : (ts : TablesValue) (line : TableLine) → fits_label ts line ≡ true → Found ts line
found_table ts line h = by_case (table_of ts (label_of line)) refl
  where
    by_case : (o : Option TableValue) → table_of ts (label_of line) ≡ o → Found ts line
    by_case None e = let bad : false ≡ true = sym (ap (λ (o : Option TableValue). option_map_or (fits_table line) o false) e) ∙ h in absurd (cc)
    by_case (Some t) e = record { table = t; found = e; fits = sym (ap (λ (o : Option TableValue). option_map_or (fits_table line) o false) e) ∙ h }

row_line_in_order : (ts : TablesValue) (line : TableLine) → AreTables ts → fits_label ts line ≡ true → AreTables (at_table (label_of line) (table_after line) ts)
row_line_in_order ts line h fits =
    let f = found_table ts line fits in
    changed_in_order ts (label_of line) f.table (table_after line) h f.found (line_in_order line f.table (found_in_order ts (label_of line) f.table h f.found) f.fits)

pub after_in_order : (ts : TablesValue) (line : TableLine) → AreTables ts → fits_line ts line ≡ true → AreTables (after_line ts line)
after_in_order ts (TableMinus label) h fits =
    let place = place_there text_order label_in label ts fits in
    subst AreTables (sym (table_removed ts label place.0 h place.1)) (table_removed_in_order ts place.0 h)
after_in_order ts (TablePlus label) h fits =
    let place = place_missing text_order label_in label ts h.labels (not_true (has_table ts label) fits) in
    subst AreTables (sym (table_placed ts label place.0 place.1)) (table_placed_in_order ts label place.0 h place.1)
after_in_order ts (RowMinus label key) h fits = row_line_in_order ts (RowMinus label key) h fits
after_in_order ts (ColumnMinus label column) h fits = row_line_in_order ts (ColumnMinus label column) h fits
after_in_order ts (ColumnPlus label column) h fits = row_line_in_order ts (ColumnPlus label column) h fits
after_in_order ts (RowPlus label key) h fits = row_line_in_order ts (RowPlus label key) h fits
after_in_order ts (Cell label column value key) h fits = row_line_in_order ts (Cell label column value key) h fits

-- ---- the catalogue of the one database
pub after_all-append : (c : CatalogueValue) (gs hs : List Change) → after_all c (gs ++ hs) ≡ after_all (after_all c gs) hs
after_all-append c [] hs = refl
after_all-append c (g ∷ gs) hs = after_all-append (after c g) gs hs

pub at_whole : (db : Text) (f : DatabaseValue → DatabaseValue) (rs : List RelationValue) → at_database db f (whole db rs) ≡ f (database_value db rs) ∷ []
at_whole db f rs = rw (same_bytes db) refl

pub attributes_found : (db label : Text) (rs : List RelationValue) (r : RelationValue) → relation_at label rs ≡ Some r → attributes_of (whole db rs) db label ≡ r.attributes
attributes_found db label rs r e =
    ap (λ (o : Option DatabaseValue). option_map_or (λ (x : RelationValue). x.attributes) (option_and_then (relation_in label) o) []) here
    ∙ ap (λ (o : Option RelationValue). option_map_or (λ (x : RelationValue). x.attributes) o []) e
  where
    here : database_of (whole db rs) db ≡ Some (database_value db rs)
    here = rw (same_bytes db) refl

-- a catalogue of the one database that says what tables say
abbrev pub IsSaid : Row → Text → CatalogueValue → TablesValue → Type 0
IsSaid constants db c ts = (rs : List RelationValue) × (c ≡ whole db rs) × AreSaid constants rs ts

-- a column that comes is no constant column
abbrev pub IsDynamic : Row → TableLine → Type 0
IsDynamic constants (ColumnPlus label column) = is_in column constants ≡ false
IsDynamic constants line = Unit {0}

-- ---- one line
module _ (constants : Row) (db : Text) (distinct : Distinct constants) (rs : List RelationValue) (ts : TablesValue) (order : AreTables ts) (said : AreSaid constants rs ts) where
  -- the record that is read in the catalogue is that of the relation
  pub same_record : (label : Text) (key : Row) (r : RelationValue) (t : TableValue) → relation_at label rs ≡ Some r → table_of ts label ≡ Some t
      → record_of constants r.attributes t key ≡ record_of constants (attributes_of (whole db rs) db label) (table_at ts label) key
  same_record label key r t i j = λ k. record_of constants (sym (attributes_found db label rs r i) k) (sym (ap (λ (o : Option TableValue). unwrap_or o empty_table) j) k) key

  pub same_after : (label : Text) (key : Row) (cells : List (Text × Text)) (r : RelationValue) (t : TableValue) → relation_at label rs ≡ Some r → table_of ts label ≡ Some t
      → record_after constants r.attributes t key cells ≡ record_after constants (attributes_of (whole db rs) db label) (table_at ts label) key cells
  same_after label key cells r t i j = λ k. record_after constants (sym (attributes_found db label rs r i) k) (sym (ap (λ (o : Option TableValue). unwrap_or o empty_table) j) k) key cells

  -- where a line fits, it fits the table that is found
  fits_found : (line : TableLine) (t : TableValue) → fits_label ts line ≡ true → table_of ts (label_of line) ≡ Some t → fits_table line t ≡ true
  fits_found line t h e = sym (ap (λ (o : Option TableValue). option_map_or (fits_table line) o false) e) ∙ h

  abbrev read : TableLine → List TableLine → List Change
  read line later = lifted_line db constants (table_at ts (label_of line)) (attributes_of (whole db rs) db (label_of line)) line later

  pub table_went : (label : Text) (later : List TableLine) → IsSaid constants db (after_all (whole db rs) (read (TableMinus label) later)) (without_table label ts)
  table_went label later = (without label rs, at_whole db (with_relations (without label)) rs, said_without constants label rs ts said)

  pub table_came : (label : Text) (later : List TableLine) → IsSaid constants db (after_all (whole db rs) (read (TablePlus label) later)) (with_table label ts)
  table_came label later = (placed (relation_value label constants []) rs, at_whole db (with_relations (placed (relation_value label constants []))) rs, said_placed constants label distinct rs ts said)

  abbrev in_relation : Text → (RelationValue → RelationValue) → List RelationValue
  in_relation label f = changed_where (λ (r : RelationValue). text_eq label r.name) f rs

  pub row_gone : (label : Text) (key : Row) (later : List TableLine) → fits_label ts (RowMinus label key) ≡ true → IsSaid constants db (after_all (whole db rs) (read (RowMinus label key) later)) (at_table label (without_row key) ts)
  row_gone label key later fits =
      let row = record_of constants (attributes_of (whole db rs) db label) (table_at ts label) key in (
        in_relation label (less_row row),
        at_whole db (at_relation_in label (less_row row)) rs,
        said_changed constants label (less_row row) (without_row key) (λ r. refl) rs ts order.labels said (λ r t i j s.
            subst (λ (x : Row). Says constants (less_row x r) (without_row key t)) (same_record label key r t i j) (row_went constants r t s label key (fits_found (RowMinus label key) t fits j))),
      )

  -- a row comes, with cells
  pub row_new : (label : Text) (key : Row) (cells : List (Text × Text)) → ((t : TableValue) → table_of ts label ≡ Some t → (has_row key t ≡ false) × HasColumns t cells)
      → IsSaid constants db (after_all (whole db rs) (Insert db label (record_after constants (attributes_of (whole db rs) db label) (table_at ts label) key cells) ∷ [])) (at_table label (λ t. cells_after key cells (with_row key t)) ts)
  row_new label key cells there =
      let row = record_after constants (attributes_of (whole db rs) db label) (table_at ts label) key cells in (
        in_relation label (put_row row),
        at_whole db (at_relation_in label (put_row row)) rs,
        said_changed constants label (put_row row) (λ t. cells_after key cells (with_row key t)) (λ r. refl) rs ts order.labels said (λ r t i j s.
            let both = there t j in
            subst (λ (x : Row). Says constants (put_row x r) (cells_after key cells (with_row key t))) (same_after label key cells r t i j) (row_said constants r t s label key cells both.1 both.0)),
      )

  pub column_gone : (label column : Text) (later : List TableLine) → fits_label ts (ColumnMinus label column) ≡ true → IsSaid constants db (after_all (whole db rs) (read (ColumnMinus label column) later)) (at_table label (without_column column) ts)
  column_gone label column later fits = (
    in_relation label (less_attribute column),
    at_whole db (at_relation_in label (less_attribute column)) rs,
    said_changed constants label (less_attribute column) (without_column column) (λ r. refl) rs ts order.labels said (λ r t i j s.
        column_dropped constants r t s label column (fits_found (ColumnMinus label column) t fits j)),
  )

  pub column_new : (label column : Text) (later : List TableLine) → fits_label ts (ColumnPlus label column) ≡ true → is_in column constants ≡ false → IsSaid constants db (after_all (whole db rs) (read (ColumnPlus label column) later)) (at_table label (with_column column) ts)
  column_new label column later fits dynamic = (
    in_relation label (with_attribute column []),
    at_whole db (at_relation_in label (with_attribute column [])) rs,
    said_changed constants label (with_attribute column []) (with_column column) (λ r. refl) rs ts order.labels said (λ r t i j s.
        column_added constants r t s label column (not_true (has_column column t) (fits_found (ColumnPlus label column) t fits j)) dynamic),
  )

  -- the cells of one row
  changed_twice : {A : Type 0} (p : A → Bool) (f g : A → A) → ((x : A) → p (f x) ≡ p x) → (xs : List A) → changed_where p g (changed_where p f xs) ≡ changed_where p (λ x. g (f x)) xs
  changed_twice p f g same [] = refl
  changed_twice p f g same (x ∷ xs) = by_test (p x) refl (changed_twice p f g same xs)
    where
      by_test : (b : Bool) → p x ≡ b → changed_where p g (changed_where p f xs) ≡ changed_where p (λ x. g (f x)) xs → changed_where p g (changed_where p f (x ∷ xs)) ≡ changed_where p (λ x. g (f x)) (x ∷ xs)
      by_test true e rest = rw (e, same x ∙ e, rest) refl
      by_test false e rest = rw (e, e, rest) refl

  pub row_changes : (label : Text) (key : Row) (cells : List (Text × Text)) → ((t : TableValue) → table_of ts label ≡ Some t → (has_row key t ≡ true) × HasColumns t cells)
      → IsSaid constants db (after_all (whole db rs) (Delete db label (record_of constants (attributes_of (whole db rs) db label) (table_at ts label) key) ∷ Insert db label (record_after constants (attributes_of (whole db rs) db label) (table_at ts label) key cells) ∷ []))
      (at_table label (cells_after key cells) ts)
  row_changes label key cells there =
      let row = record_of constants (attributes_of (whole db rs) db label) (table_at ts label) key in
      let new = record_after constants (attributes_of (whole db rs) db label) (table_at ts label) key cells in (
        in_relation label (λ r. put_row new (less_row row r)),
        ap (at_relation db label (put_row new)) (at_whole db (at_relation_in label (less_row row)) rs) ∙ at_whole db (at_relation_in label (put_row new)) (in_relation label (less_row row)) ∙ ap (whole db) (changed_twice (λ (r : RelationValue). text_eq label r.name) (less_row row) (put_row new) (λ r. refl) rs),
        said_changed constants label (λ r. put_row new (less_row row r)) (cells_after key cells) (λ r. refl) rs ts order.labels said (λ r t i j s.
            let both = there t j in
            let one = subst (λ (x : Row). Says constants (put_row (record_after constants r.attributes t key cells) (less_row x r)) (cells_after key cells t)) (same_record label key r t i j) (cells_said constants r t s label key cells both.1 both.0) in
            subst (λ (x : Row). Says constants (put_row x (less_row row r)) (cells_after key cells t)) (same_after label key cells r t i j) one),
      )

-- ---- lines of cells in one row
abbrev pub cell_lines : Text → Row → List (Text × Text) → List TableLine
cell_lines label key cells = map (λ (x : Text × Text). Cell label x.0 x.1 key) cells

-- the lines to come of cells in a row that was begun
abbrev pub pending : Option (Text × Row) → List TableLine → List TableLine
pending None lines = []
pending (Some row) lines = cell_lines row.0 row.1 (front_cells row.0 row.1 lines)

table_twice : (label : Text) (f g : TableValue → TableValue) (ts : TablesValue) → at_table label g (at_table label f ts) ≡ at_table label (λ t. g (f t)) ts
table_twice label f g [] = refl
table_twice label f g (p ∷ ps) = by_test (text_eq label p.0) refl (table_twice label f g ps)
  where
    by_test : (b : Bool) → text_eq label p.0 ≡ b → at_table label g (at_table label f ps) ≡ at_table label (λ t. g (f t)) ps → at_table label g (at_table label f (p ∷ ps)) ≡ at_table label (λ t. g (f t)) (p ∷ ps)
    by_test true e rest = rw (e, e, rest) refl
    by_test false e rest = rw (e, e, rest) refl

table_stays : (label : Text) (ts : TablesValue) → at_table label (λ t. t) ts ≡ ts
table_stays label [] = refl
table_stays label (p ∷ ps) = by_test (text_eq label p.0) refl (table_stays label ps)
  where
    by_test : (b : Bool) → text_eq label p.0 ≡ b → at_table label (λ t. t) ps ≡ ps → at_table label (λ t. t) (p ∷ ps) ≡ p ∷ ps
    by_test true e rest = rw (e, rest) refl
    by_test false e rest = rw (e, rest) refl

pub after_cells : (label : Text) (key : Row) (cells : List (Text × Text)) (ts : TablesValue) → after_lines ts (cell_lines label key cells) ≡ at_table label (cells_after key cells) ts
after_cells label key [] ts = sym (table_stays label ts)
after_cells label key (x ∷ cells) ts = after_cells label key cells (at_table label (with_cell key x.0 x.1) ts) ∙ table_twice label (with_cell key x.0 x.1) (cells_after key cells) ts

pub after_row : (label : Text) (key : Row) (cells : List (Text × Text)) (ts : TablesValue) → after_lines (at_table label (with_row key) ts) (cell_lines label key cells) ≡ at_table label (λ t. cells_after key cells (with_row key t)) ts
after_row label key cells ts = after_cells label key cells (at_table label (with_row key) ts) ∙ table_twice label (with_row key) (cells_after key cells) ts

-- columns of the cells at the front are there
pub cells_fit : (label : Text) (key : Row) (lines : List TableLine) (ts : TablesValue) (t : TableValue) → table_of ts label ≡ Some t → fit_lines ts lines ≡ true → HasColumns t (front_cells label key lines)
cells_fit label key [] ts t e h = tt
cells_fit label key (TableMinus l ∷ lines) ts t e h = tt
cells_fit label key (TablePlus l ∷ lines) ts t e h = tt
cells_fit label key (RowMinus l k ∷ lines) ts t e h = tt
cells_fit label key (ColumnMinus l column ∷ lines) ts t e h = tt
cells_fit label key (ColumnPlus l column ∷ lines) ts t e h = tt
cells_fit label key (RowPlus l k ∷ lines) ts t e h = tt
cells_fit label key (Cell l column value k ∷ lines) ts t e h = by_row (text_eq label l && row_eq key k) refl (cells_fit label key lines (after_line ts (Cell l column value k)))
  where
    by_row : (b : Bool) → (text_eq label l && row_eq key k) ≡ b
        → ((u : TableValue) → table_of (after_line ts (Cell l column value k)) label ≡ Some u → fit_lines (after_line ts (Cell l column value k)) lines ≡ true → HasColumns u (front_cells label key lines))
        → HasColumns t (cond (text_eq label l && row_eq key k) ((column, value) ∷ front_cells label key lines) [])
    by_row false same rest = rw same tt
    by_row true same rest =
        let name : l ≡ label = sym (bytes_same label l (and_first (text_eq label l) (row_eq key k) same)) in
        let first = and_first (fits_label ts (Cell l column value k)) (fit_lines (after_line ts (Cell l column value k)) lines) h in
        let second = and_second (fits_label ts (Cell l column value k)) (fit_lines (after_line ts (Cell l column value k)) lines) h in
        let at : table_of ts l ≡ Some t = ap (table_of ts) name ∙ e in
        let fits : (has_row k t && has_column column t) ≡ true = sym (ap (λ (o : Option TableValue). option_map_or (fits_table (Cell l column value k)) o false) at) ∙ first in
        let now : table_of (after_line ts (Cell l column value k)) label ≡ Some (with_cell k column value t) =
        lookup_changed text_order (with_cell k column value) ts l label ∙ rw (name, same_bytes label, e) refl in
        rw same (and_second (has_row k t) (has_column column t) fits, rest (with_cell k column value t) now second)

-- and those of the cells behind a row that comes, whose key is not there
pub row_fits : (label : Text) (key : Row) (lines : List TableLine) (ts : TablesValue) (t : TableValue) → table_of ts label ≡ Some t → fit_lines ts (RowPlus label key ∷ lines) ≡ true → (has_row key t ≡ false) × HasColumns t (front_cells label key lines)
row_fits label key lines ts t e h =
    let first = and_first (fits_label ts (RowPlus label key)) (fit_lines (after_line ts (RowPlus label key)) lines) h in
    let second = and_second (fits_label ts (RowPlus label key)) (fit_lines (after_line ts (RowPlus label key)) lines) h in
    let new : not (has_row key t) ≡ true = sym (ap (λ (o : Option TableValue). option_map_or (fits_table (RowPlus label key)) o false) e) ∙ first in
    let now : table_of (after_line ts (RowPlus label key)) label ≡ Some (with_row key t) = lookup_changed text_order (with_row key) ts label label ∙ rw (same_bytes label, e) refl in
    (not_true (has_row key t) new, cells_fit label key lines (after_line ts (RowPlus label key)) (with_row key t) now second)

-- ---- where the tables before all lines have the cells that are read
abbrev pub Agrees : TableValue → TableValue → Row → Type 0
Agrees before t key = (name : Text) → has_column name t ≡ true → cell_of before key name ≡ cell_of t key name

abbrev pub LineReads : TableValue → TableValue → TableLine → Type 0
LineReads before t (RowMinus label key) = Agrees before t key
LineReads before t (RowPlus label key) = Agrees before t key
LineReads before t (Cell label column value key) = Agrees before t key
LineReads before t line = Unit {0}

-- each line that does not go on with a row finds its cells in the tables before all lines
abbrev pub Reads : TablesValue → TablesValue → Option (Text × Row) → List TableLine → Type 0
Reads before ts row [] = Unit {0}
Reads before ts row (line ∷ lines) = (goes_on row line ≡ false → LineReads (table_at before (label_of line)) (table_at ts (label_of line)) line) × Reads before (after_line ts line) (row_of line) lines

-- a table that is there has its relation
pub said_found : (constants : Row) (label : Text) (rs : List RelationValue) (ts : TablesValue) (t : TableValue) → AreSaid constants rs ts → table_of ts label ≡ Some t → (r : RelationValue) × (relation_at label rs ≡ Some r) × Says constants r t
said_found constants label [] [] t h e = absurd (cc)
said_found constants label [] (p ∷ ps) t h e = absurd h
said_found constants label (r ∷ rs) [] t h e = absurd h
said_found constants label (r ∷ rs) (p ∷ ps) t h e = by_name (text_eq label p.0) refl (said_found constants label rs ps t h.2)
  where
    by_name : (b : Bool) → text_eq label p.0 ≡ b → (table_of ps label ≡ Some t → (x : RelationValue) × (relation_at label rs ≡ Some x) × Says constants x t) → (x : RelationValue) × (relation_at label (r ∷ rs) ≡ Some x) × Says constants x t
    by_name true k rest =
        let same : p.1 ≡ t = some_same p.1 t (sym (ap (λ (b : Bool). cond b (Some p.1) (table_of ps label)) k) ∙ e) in
        (r, rw (ap (text_eq label) h.0 ∙ k) refl, subst (λ (u : TableValue). Says constants r u) same h.1)
      where
        some_same : (a b : TableValue) → Some a ≡ Some b → a ≡ b
        some_same a b i = ap (λ (o : Option TableValue). unwrap_or o empty_table) i
    by_name false k rest =
        let found = rest (sym (ap (λ (b : Bool). cond b (Some p.1) (table_of ps label)) k) ∙ e) in
        (found.0, rw (ap (text_eq label) h.0 ∙ k) found.1, found.2)

map_agrees : (f g : Text → Text) (ns : Row) → ((name : Text) → is_in name ns ≡ true → f name ≡ g name) → map f ns ≡ map g ns
map_agrees f g [] h = refl
map_agrees f g (n ∷ ns) h = λ i. h n (ap (λ (b : Bool). b || is_in n ns) (same_bytes n)) i ∷ map_agrees f g ns (λ name j. h name (ap (λ (b : Bool). text_eq name n || b) j ∙ or_right (text_eq name n))) i

module _ (constants : Row) (db : Text) (before : TablesValue) (rs : List RelationValue) (ts : TablesValue) (said : AreSaid constants rs ts) where
  text_agrees : (label : Text) (key : Row) (t : TableValue) → table_of ts label ≡ Some t → Agrees (table_at before label) (table_at ts label) key
      → (name : Text) → is_in name (attributes_of (whole db rs) db label) ≡ true → text_of constants (table_at before label) key name ≡ text_of constants (table_at ts label) key name
  text_agrees label key t e agrees name there = by_in (is_in name constants) refl
    where
      found : (r : RelationValue) × (relation_at label rs ≡ Some r) × Says constants r t
      found = said_found constants label rs ts t said e

      either : (is_in name constants || is_in name t.columns) ≡ true
      either = sym (in_upper constants found.0 t found.2 name) ∙ ap (is_in name) (sym (attributes_found db label rs found.0 found.1)) ∙ there

      now : t ≡ table_at ts label
      now = sym (ap (λ (o : Option TableValue). unwrap_or o empty_table) e)

      by_in : (b : Bool) → is_in name constants ≡ b → text_of constants (table_at before label) key name ≡ text_of constants (table_at ts label) key name
      by_in true k = rw k refl
      by_in false k =
          let column : is_in name t.columns ≡ true = sym (ap (λ (b : Bool). b || is_in name t.columns) k) ∙ either in
          rw k (agrees name (ap (has_column name) (sym now) ∙ column))

  record_agrees : (label : Text) (key : Row) (t : TableValue) → table_of ts label ≡ Some t → Agrees (table_at before label) (table_at ts label) key → (cells : List (Text × Text))
      → record_after constants (attributes_of (whole db rs) db label) (table_at before label) key cells ≡ record_after constants (attributes_of (whole db rs) db label) (table_at ts label) key cells
  record_agrees label key t e agrees cells = map_agrees _ _ (attributes_of (whole db rs) db label) (λ name h. ap (text_after name cells) (text_agrees label key t e agrees name h))

  pub same_line : (line : TableLine) (lines : List TableLine) → fits_line ts line ≡ true → LineReads (table_at before (label_of line)) (table_at ts (label_of line)) line
      → lifted_line db constants (table_at before (label_of line)) (attributes_of (whole db rs) db (label_of line)) line lines ≡ lifted_line db constants (table_at ts (label_of line)) (attributes_of (whole db rs) db (label_of line)) line lines
  same_line (TableMinus label) lines fits reads = refl
  same_line (TablePlus label) lines fits reads = refl
  same_line (ColumnMinus label column) lines fits reads = refl
  same_line (ColumnPlus label column) lines fits reads = refl
  same_line (RowMinus label key) lines fits reads =
      let f = found_table ts (RowMinus label key) fits in
      ap (λ (row : Row). Delete db label row ∷ []) (record_agrees label key f.table f.found reads [])
  same_line (RowPlus label key) lines fits reads =
      let f = found_table ts (RowPlus label key) fits in
      ap (λ (row : Row). Insert db label row ∷ []) (record_agrees label key f.table f.found reads (front_cells label key lines))
  same_line (Cell label column value key) lines fits reads =
      let f = found_table ts (Cell label column value key) fits in
      let old = record_agrees label key f.table f.found reads [] in
      let new = record_agrees label key f.table f.found reads ((column, value) ∷ front_cells label key lines) in
      λ i. Delete db label (old i) ∷ Insert db label (new i) ∷ []

-- ---- the attributes of a relation after a line
pub find_changed : (label l : Text) (f : RelationValue → RelationValue) (rs : List RelationValue) → ((r : RelationValue) → (f r).name ≡ r.name)
    → relation_at l (changed_where (λ (r : RelationValue). text_eq label r.name) f rs) ≡ cond (text_eq l label) (option_map f (relation_at l rs)) (relation_at l rs)
find_changed label l f [] named = either (text_eq l label)
  where
    either : (b : Bool) → relation_at l [] ≡ cond b (option_map f (relation_at l [])) (relation_at l [])
    either true = refl
    either false = refl
find_changed label l f (r ∷ rs) named = by_name (text_eq l r.name) refl (find_changed label l f rs named)
  where
    by_name : (b : Bool) → text_eq l r.name ≡ b
        → relation_at l (changed_where (λ (x : RelationValue). text_eq label x.name) f rs) ≡ cond (text_eq l label) (option_map f (relation_at l rs)) (relation_at l rs)
        → relation_at l (changed_where (λ (x : RelationValue). text_eq label x.name) f (r ∷ rs)) ≡ cond (text_eq l label) (option_map f (relation_at l (r ∷ rs))) (relation_at l (r ∷ rs))
    by_name true e rest =
        let same : l ≡ r.name = bytes_same l r.name e in
        let test : text_eq label r.name ≡ text_eq l label = ap (text_eq label) (sym same) ∙ turned text_order label l in
        by_label (text_eq l label) refl test
      where
        by_label : (b : Bool) → text_eq l label ≡ b → text_eq label r.name ≡ text_eq l label
            → relation_at l (changed_where (λ (x : RelationValue). text_eq label x.name) f (r ∷ rs)) ≡ cond (text_eq l label) (option_map f (relation_at l (r ∷ rs))) (relation_at l (r ∷ rs))
        by_label true k test = rw (test ∙ k, k, e) (ap (λ (b : Bool). cond b (Some (f r)) (relation_at l (changed_where (λ (x : RelationValue). text_eq label x.name) f rs))) (ap (text_eq l) (named r) ∙ e))
        by_label false k test = rw (test ∙ k, k, e) refl
    by_name false e rest = by_test (text_eq label r.name) refl
      where
        by_test : (b : Bool) → text_eq label r.name ≡ b
            → relation_at l (changed_where (λ (x : RelationValue). text_eq label x.name) f (r ∷ rs)) ≡ cond (text_eq l label) (option_map f (relation_at l (r ∷ rs))) (relation_at l (r ∷ rs))
        by_test true k = rw (k, e) (ap (λ (b : Bool). cond b (Some (f r)) (relation_at l (changed_where (λ (x : RelationValue). text_eq label x.name) f rs))) (ap (text_eq l) (named r) ∙ e) ∙ rest)
        by_test false k = rw (k, e) rest

find_without : (label l : Text) (rs : List RelationValue) → relation_at l (without label rs) ≡ cond (text_eq l label) None (relation_at l rs)
find_without label l [] = either (text_eq l label)
  where
    either : (b : Bool) → relation_at l [] ≡ cond b None (relation_at l [])
    either true = refl
    either false = refl
find_without label l (r ∷ rs) = by_test (text_eq label r.name) refl (find_without label l rs)
  where
    by_test : (b : Bool) → text_eq label r.name ≡ b → relation_at l (without label rs) ≡ cond (text_eq l label) None (relation_at l rs)
        → relation_at l (without label (r ∷ rs)) ≡ cond (text_eq l label) None (relation_at l (r ∷ rs))
    by_test true k rest = rw k (rest ∙ by_label (text_eq l label) refl)
      where
        by_label : (b : Bool) → text_eq l label ≡ b → cond (text_eq l label) None (relation_at l rs) ≡ cond (text_eq l label) None (relation_at l (r ∷ rs))
        by_label true e = rw e refl
        by_label false e =
            let other : text_eq l r.name ≡ false = ap (text_eq l) (sym (bytes_same label r.name k)) ∙ e in
            rw (e, other) refl
    by_test false k rest = by_name (text_eq l r.name) refl
      where
        by_name : (b : Bool) → text_eq l r.name ≡ b → relation_at l (without label (r ∷ rs)) ≡ cond (text_eq l label) None (relation_at l (r ∷ rs))
        by_name true e =
            let other : text_eq l label ≡ false = ap (λ (x : Text). text_eq x label) (bytes_same l r.name e) ∙ turned text_order r.name label ∙ k in
            rw (k, e, other) refl
        by_name false e = rw (k, e) rest

find_placed : (label l : Text) (names : Row) (rs : List RelationValue) → relation_at label rs ≡ None → relation_at l (placed (relation_value label names []) rs) ≡ cond (text_eq l label) (Some (relation_value label names [])) (relation_at l rs)
find_placed label l names [] none = refl
find_placed label l names (r ∷ rs) none = by_test (text_eq label r.name) refl (find_placed label l names rs)
  where
    by_test : (b : Bool) → text_eq label r.name ≡ b → (relation_at label rs ≡ None → relation_at l (placed (relation_value label names []) rs) ≡ cond (text_eq l label) (Some (relation_value label names [])) (relation_at l rs))
        → relation_at l (placed (relation_value label names []) (r ∷ rs)) ≡ cond (text_eq l label) (Some (relation_value label names [])) (relation_at l (r ∷ rs))
    by_test true k rest = let bad : Some r ≡ None = sym (ap (λ (b : Bool). cond b (Some r) (relation_at label rs)) k) ∙ none in absurd (cc)
    by_test false k rest = by_cmp (text_cmp label r.name) refl (rest (sym (ap (λ (b : Bool). cond b (Some r) (relation_at label rs)) k) ∙ none))
      where
        by_cmp : (o : Ordering) → text_cmp label r.name ≡ o → relation_at l (placed (relation_value label names []) rs) ≡ cond (text_eq l label) (Some (relation_value label names [])) (relation_at l rs)
            → relation_at l (placed (relation_value label names []) (r ∷ rs)) ≡ cond (text_eq l label) (Some (relation_value label names [])) (relation_at l (r ∷ rs))
        by_cmp Less e behind = rw e refl
        by_cmp Equal e behind = let bad : true ≡ false = sym (text_order.ties label r.name ∙ ap is_eq e) ∙ k in absurd (cc)
        by_cmp Greater e behind = rw (e, behind) (by_name (text_eq l r.name) refl)
          where
            by_name : (b : Bool) → text_eq l r.name ≡ b → cond (text_eq l r.name) (Some r) (cond (text_eq l label) (Some (relation_value label names [])) (relation_at l rs)) ≡ cond (text_eq l label) (Some (relation_value label names [])) (cond (text_eq l r.name) (Some r) (relation_at l rs))
            by_name true i =
                let other : text_eq l label ≡ false = ap (λ (x : Text). text_eq x label) (bytes_same l r.name i) ∙ turned text_order r.name label ∙ k in
                rw (i, other) refl
            by_name false i = rw i refl

abbrev names_in : Option RelationValue → Row
names_in o = option_map_or (λ (x : RelationValue). x.attributes) o []

attributes_are : (db label : Text) (rs : List RelationValue) → attributes_of (whole db rs) db label ≡ names_in (relation_at label rs)
attributes_are db label rs = ap (λ (o : Option DatabaseValue). names_in (option_and_then (relation_in label) o)) here
  where
    here : database_of (whole db rs) db ≡ Some (database_value db rs)
    here = rw (same_bytes db) refl

-- no table, no relation
pub said_missing : (constants : Row) (label : Text) (rs : List RelationValue) (ts : TablesValue) → AreSaid constants rs ts → has_table ts label ≡ false → relation_at label rs ≡ None
said_missing constants label [] [] h none = refl
said_missing constants label [] (p ∷ ps) h none = absurd h
said_missing constants label (r ∷ rs) [] h none = absurd h
said_missing constants label (r ∷ rs) (p ∷ ps) h none = by_name (text_eq label p.0) refl (said_missing constants label rs ps h.2)
  where
    by_name : (b : Bool) → text_eq label p.0 ≡ b → (has_table ps label ≡ false → relation_at label rs ≡ None) → relation_at label (r ∷ rs) ≡ None
    by_name true e rest = let bad : true ≡ false = sym (ap (λ (b : Bool). b || has_table ps label) e) ∙ none in absurd (cc)
    by_name false e rest = rw (ap (text_eq label) h.0 ∙ e) (rest (sym (ap (λ (b : Bool). b || has_table ps label) e) ∙ none))

-- what an edit of one relation makes of the attributes
edited_names : (db : Text) (rs : List RelationValue) (label l : Text) (f : RelationValue → RelationValue) (g : Row → Row) → ((r : RelationValue) → (f r).name ≡ r.name) → ((r : RelationValue) → (f r).attributes ≡ g r.attributes)
    → (text_eq l label ≡ true → relation_at l rs ≡ None → g [] ≡ [])
    → attributes_of (at_relation db label f (whole db rs)) db l ≡ cond (text_eq l label) (g (attributes_of (whole db rs) db l)) (attributes_of (whole db rs) db l)
edited_names db rs label l f g named names none =
    ap (λ (c : CatalogueValue). attributes_of c db l) (at_whole db (at_relation_in label f) rs)
    ∙ attributes_are db l (changed_where (λ (r : RelationValue). text_eq label r.name) f rs)
    ∙ ap names_in (find_changed label l f rs named)
    ∙ by_label (text_eq l label) refl
  where
    mapped : (o : Option RelationValue) → (o ≡ None → g [] ≡ []) → names_in (option_map f o) ≡ g (names_in o)
    mapped None h = sym (h refl)
    mapped (Some r) h = names r

    by_label : (b : Bool) → text_eq l label ≡ b → names_in (cond (text_eq l label) (option_map f (relation_at l rs)) (relation_at l rs)) ≡ cond (text_eq l label) (g (attributes_of (whole db rs) db l)) (attributes_of (whole db rs) db l)
    by_label true e = rw e (mapped (relation_at l rs) (none e) ∙ ap g (sym (attributes_are db l rs)))
    by_label false e = rw e (sym (attributes_are db l rs))

pub same_both : (b : Bool) (x : Row) → cond b x x ≡ x
same_both true x = refl
same_both false x = refl

abbrev pub AfterNames : Row → Text → List RelationValue → TableValue → Row → TableLine → List TableLine → Text → Type 0
AfterNames constants db rs t names line later l =
    attributes_of (after_all (whole db rs) (lifted_line db constants t names line later)) db l ≡ cond (text_eq l (label_of line)) (names_after constants line (attributes_of (whole db rs) db l)) (attributes_of (whole db rs) db l)

pub after_names : (constants : Row) (db : Text) (rs : List RelationValue) (ts : TablesValue) (said : AreSaid constants rs ts) (t : TableValue) (names : Row) (line : TableLine) (later : List TableLine) (l : Text) → fits_line ts line ≡ true → AfterNames constants db rs t names line later l
after_names constants db rs ts said t names (TableMinus label) later l fits =
    ap (λ (c : CatalogueValue). attributes_of c db l) (at_whole db (with_relations (without label)) rs)
    ∙ attributes_are db l (without label rs)
    ∙ ap names_in (find_without label l rs)
    ∙ by_label (text_eq l label) refl
  where
    by_label : (b : Bool) → text_eq l label ≡ b → names_in (cond (text_eq l label) None (relation_at l rs)) ≡ cond (text_eq l label) [] (attributes_of (whole db rs) db l)
    by_label true e = rw e refl
    by_label false e = rw e (sym (attributes_are db l rs))
after_names constants db rs ts said t names (TablePlus label) later l fits =
    ap (λ (c : CatalogueValue). attributes_of c db l) (at_whole db (with_relations (placed (relation_value label constants []))) rs)
    ∙ attributes_are db l (placed (relation_value label constants []) rs)
    ∙ ap names_in (find_placed label l constants rs (said_missing constants label rs ts said (not_true (has_table ts label) fits)))
    ∙ by_label (text_eq l label) refl
  where
    by_label : (b : Bool) → text_eq l label ≡ b → names_in (cond (text_eq l label) (Some (relation_value label constants [])) (relation_at l rs)) ≡ cond (text_eq l label) constants (attributes_of (whole db rs) db l)
    by_label true e = rw e refl
    by_label false e = rw e (sym (attributes_are db l rs))
after_names constants db rs ts said t names (RowMinus label key) later l fits = edited_names db rs label l (less_row (record_of constants names t key)) (λ ns. ns) (λ r. refl) (λ r. refl) (λ e none. refl)
after_names constants db rs ts said t names (RowPlus label key) later l fits = edited_names db rs label l (put_row (record_after constants names t key (front_cells label key later))) (λ ns. ns) (λ r. refl) (λ r. refl) (λ e none. refl)
after_names constants db rs ts said t names (ColumnMinus label column) later l fits =
    edited_names db rs label l (less_attribute column) (λ ns. remove ns (position_or_len (text_eq column) ns)) (λ r. refl) (λ r. refl) (λ e none. refl)
after_names constants db rs ts said t names (ColumnPlus label column) later l fits =
    edited_names db rs label l (with_attribute column []) (λ ns. ns ++ column ∷ []) (λ r. refl) (λ r. refl) there
  where
    there : text_eq l label ≡ true → relation_at l rs ≡ None → [] ++ column ∷ [] ≡ []
    there e none =
        let f = found_table ts (ColumnPlus label column) fits in
        let found = said_found constants label rs ts f.table said f.found in
        let bad : None ≡ Some found.0 = sym none ∙ ap (λ (x : Text). relation_at x rs) (bytes_same l label e) ∙ found.1 in
        absurd (cc)
after_names constants db rs ts said t names (Cell label column value key) later l fits =
    let less = less_row (record_of constants names t key) in
    let more = put_row (record_after constants names t key ((column, value) ∷ front_cells label key later)) in
    let rs' = changed_where (λ (r : RelationValue). text_eq label r.name) less rs in
    ap (λ (c : CatalogueValue). attributes_of (at_relation db label more c) db l) (at_whole db (at_relation_in label less) rs)
    ∙ edited_names db rs' label l more (λ ns. ns) (λ r. refl) (λ r. refl) (λ e none. refl)
    ∙ same_both (text_eq l label) (attributes_of (whole db rs') db l)
    ∙ ap (λ (c : CatalogueValue). attributes_of c db l) (sym (at_whole db (at_relation_in label less) rs))
    ∙ edited_names db rs label l less (λ ns. ns) (λ r. refl) (λ r. refl) (λ e none. refl)

-- ---- lines of one label stand together
abbrev pub LeavesBehind : Text → List TableLine → Type 0
LeavesBehind label [] = Unit {0}
LeavesBehind label (line ∷ lines) = text_eq label (label_of line) ≡ false → is_in label (map label_of lines) ≡ false

abbrev pub AreBlocks : List TableLine → Type 0
AreBlocks [] = Unit {0}
AreBlocks (line ∷ lines) = LeavesBehind (label_of line) lines × AreBlocks lines

abbrev pub Leaves : Option (Text × Row) → List TableLine → Type 0
Leaves None lines = Unit {0}
Leaves (Some left) lines = LeavesBehind left.0 lines

-- the names that are read are those of the catalogue now
abbrev pub Heads : CatalogueValue → Text → Option (Text × Row) → List RelationValue → List TableLine → Type 0
Heads c db left rs lines = (l : Text) → is_in l (map label_of lines) ≡ true → names_of c db left l ≡ attributes_of (whole db rs) db l

pub own_names : (names : Row) (constants : Row) (row : Option (Text × Row)) (line : TableLine) → goes_on row line ≡ true → names_after constants line names ≡ names
own_names names constants None line h = absurd (cc)
own_names names constants (Some row) (TableMinus l) h = absurd (cc)
own_names names constants (Some row) (TablePlus l) h = absurd (cc)
own_names names constants (Some row) (RowMinus l k) h = absurd (cc)
own_names names constants (Some row) (ColumnMinus l c) h = absurd (cc)
own_names names constants (Some row) (ColumnPlus l c) h = absurd (cc)
own_names names constants (Some row) (RowPlus l k) h = absurd (cc)
own_names names constants (Some row) (Cell l c v k) h = refl

-- a label that comes later and is not the line's was not left before
not_left : (c : CatalogueValue) (db : Text) (left : Option (Text × Row)) (line : TableLine) (lines : List TableLine) (l : Text) → Leaves left (line ∷ lines) → is_in l (map label_of lines) ≡ true → text_eq (label_of line) l ≡ false → names_of c db left l ≡ attributes_of c db l
not_left c db None line lines l leaves there other = refl
not_left c db (Some left) line lines l leaves there other = by_test (text_eq left.0 l) refl
  where
    by_test : (b : Bool) → text_eq left.0 l ≡ b → names_of c db (Some left) l ≡ attributes_of c db l
    by_test false e = rw e refl
    by_test true e =
        let same : left.0 ≡ l = bytes_same left.0 l e in
        let gone : is_in left.0 (map label_of lines) ≡ false = leaves (ap (λ (x : Text). text_eq x (label_of line)) same ∙ turned text_order l (label_of line) ∙ other) in
        let bad : true ≡ false = sym there ∙ ap (λ (x : Text). is_in x (map label_of lines)) (sym same) ∙ gone in
        absurd (cc)

pub next_heads : (constants : Row) (c : CatalogueValue) (db : Text) (left : Option (Text × Row)) (rs ss : List RelationValue) (line : TableLine) (lines : List TableLine) → Heads c db left rs (line ∷ lines) → Leaves left (line ∷ lines)
    → ((l : Text) → attributes_of (whole db ss) db l ≡ cond (text_eq l (label_of line)) (names_after constants line (attributes_of (whole db rs) db l)) (attributes_of (whole db rs) db l))
    → Heads c db (Some (label_of line, names_after constants line (names_of c db left (label_of line)))) ss lines
next_heads constants c db left rs ss line lines heads leaves after l there = by_label (text_eq (label_of line) l) refl
  where
    here : names_of c db left (label_of line) ≡ attributes_of (whole db rs) db (label_of line)
    here = heads (label_of line) (ap (λ (b : Bool). b || is_in (label_of line) (map label_of lines)) (same_bytes (label_of line)))

    by_label : (b : Bool) → text_eq (label_of line) l ≡ b → names_of c db (Some (label_of line, names_after constants line (names_of c db left (label_of line)))) l ≡ attributes_of (whole db ss) db l
    by_label true e =
        let same : label_of line ≡ l = bytes_same (label_of line) l e in
        let back : text_eq l (label_of line) ≡ true = turned text_order l (label_of line) ∙ e in
        rw e (ap (names_after constants line) (here ∙ ap (attributes_of (whole db rs) db) same) ∙ sym (after l ∙ ap (λ (b : Bool). cond b (names_after constants line (attributes_of (whole db rs) db l)) (attributes_of (whole db rs) db l)) back))
    by_label false e =
        let back : text_eq l (label_of line) ≡ false = turned text_order l (label_of line) ∙ e in
        let now : names_of c db left l ≡ attributes_of (whole db rs) db l = heads l (ap (λ (b : Bool). text_eq l (label_of line) || b) there ∙ or_right (text_eq l (label_of line))) in
        rw e (sym (not_left c db left line lines l leaves there e) ∙ now ∙ sym (after l ∙ ap (λ (b : Bool). cond b (names_after constants line (attributes_of (whole db rs) db l)) (attributes_of (whole db rs) db l)) back))

pub off_pending : (row : Option (Text × Row)) (line : TableLine) (lines : List TableLine) → goes_on row line ≡ false → pending row (line ∷ lines) ≡ []
off_pending None line lines h = refl
off_pending (Some row) (TableMinus l) lines h = refl
off_pending (Some row) (TablePlus l) lines h = refl
off_pending (Some row) (RowMinus l k) lines h = refl
off_pending (Some row) (ColumnMinus l c) lines h = refl
off_pending (Some row) (ColumnPlus l c) lines h = refl
off_pending (Some row) (RowPlus l k) lines h = refl
off_pending (Some row) (Cell l c v k) lines h = rw h refl

pub on_pending : (row : Option (Text × Row)) (line : TableLine) (lines : List TableLine) → goes_on row line ≡ true → pending row (line ∷ lines) ≡ line ∷ pending (row_of line) lines
on_pending None line lines h = absurd (cc)
on_pending (Some row) (TableMinus l) lines h = absurd (cc)
on_pending (Some row) (TablePlus l) lines h = absurd (cc)
on_pending (Some row) (RowMinus l k) lines h = absurd (cc)
on_pending (Some row) (ColumnMinus l c) lines h = absurd (cc)
on_pending (Some row) (ColumnPlus l c) lines h = absurd (cc)
on_pending (Some row) (RowPlus l k) lines h = absurd (cc)
on_pending (Some row) (Cell l c v k) lines h =
    let name = bytes_same row.0 l (and_first (text_eq row.0 l) (row_eq row.1 k) h) in
    let key = rows_same row.1 k (and_second (text_eq row.0 l) (row_eq row.1 k) h) in
    rw h (λ i. Cell (name i) c v (key i) ∷ cell_lines (name i) (key i) (front_cells (name i) (key i) lines))

pub none_pending : (row : Option (Text × Row)) → pending row [] ≡ []
none_pending None = refl
none_pending (Some row) = refl
