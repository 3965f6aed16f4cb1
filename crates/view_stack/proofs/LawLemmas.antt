-- The lifted lines of a script make a catalogue that stands for the tables before stand for those after, unless a limit is passed.
use Rattle.std.proofs.Common.{◌≡◌, ◌≤◌, ◌∙◌, ◌∷◌, ◌++◌, ◌&&◌, ◌||◌, Bool, true, false, cond, List, [], Option, Some, None, length, map, refl, sym, ap, subst}
use Rattle.std.specs.Prelude.{option_map, unwrap_or}
use Rattle.std.specs.List.{AllByRecursion}
use Rattle.std.specs.Option.{option_or, option_map_or}
use Rattle.ss_text.specs.Texts.{Text, Row, text_eq, row_eq, is_in}
use Rattle.flow_law.specs.declared.shape.Shape.{Shape}
use Rattle.flow_law.specs.Tables.{TableValue, TablesValue, table_of}
use Rattle.flow_law.specs.InOrder.{AreTables}
use Rattle.flow_law.specs.Lines.{label_of, after_line, after_lines, has_row, has_column, fits_table, fits_label, fits_line, fit_lines}
use Rattle.flow_law.specs.Script.{script}
use Rattle.flow_law.specs.declared.line.TableLine.{TableLine}
use Rattle.flow_law.specs.declared.line.TableLine.TheVariants.{TableMinus, TablePlus, RowMinus, ColumnMinus, ColumnPlus, RowPlus, Cell}
use Rattle.flow_law.proofs.ScriptLaw.{script_makes, script_fits}
use Rattle.change_script.specs.Fits.{TableFits, TablesFit, IsForm}
use Rattle.schema_model.specs.Catalogue.{RelationValue, CatalogueValue, attributes_of}
use Rattle.schema_model.specs.Changes.{after, after_all}
use Rattle.schema_model.specs.Refusals.{fault, group_fault}
use Rattle.schema_model.specs.Sound.{IsSound}
use Rattle.schema_model.specs.declared.change.Change.{Change}
use Rattle.schema_model.specs.declared.refusal.Refusal.{Refusal}
use Rattle.schema_model.specs.declared.refusal.Refusal.TheVariants.{Limit}
use Rattle.schema_model.specs.declared.refusal.Which.{Which}
use Rattle.view_meaning.proofs.OrderLemmas.{same_bytes, same_rows, bytes_same}
use Rattle.view_stack.specs.Stands.{database_for, stands}
use Rattle.view_stack.specs.Limits.{first_limit, lifted_limit}
use Rattle.view_stack.specs.Records.{front_cells}
use Rattle.view_stack.specs.Lifted.{lifted_line, row_of, goes_on, table_at, names_after, names_of, lifted_behind, lifted}
use Rattle.view_stack.proofs.SaysLemmas.{Distinct, and_first, and_second}
use Rattle.view_stack.proofs.MovedLemmas.{AreSaid, whole, HasColumns}
use Rattle.view_stack.proofs.LinesLemmas.{IsSaid, IsDynamic, AreBlocks, Heads, Leaves, Reads, pending, after_in_order, after_all-append, table_went, table_came, row_gone, row_new, column_gone, column_new, row_changes, after_cells, after_row, cells_fit, row_fits, same_line, after_names, same_both, own_names, next_heads, off_pending, on_pending, none_pending}
use Rattle.view_stack.proofs.LimitLemmas.{IsLegal, line_judged, goes_on_within, sound_within}
use Rattle.view_stack.proofs.ScriptLemmas.{script_reads, script_blocks, script_dynamic, script_legal}
use Rattle.view_stack.proofs.StandsLemmas.{are_distinct, columns_dynamic, stands_said, said_stands}

-- ---- all lines
group_fault-append : (c : CatalogueValue) (gs hs : List Change) → group_fault c (gs ++ hs) ≡ option_or (group_fault c gs) (group_fault (after_all c gs) hs)
group_fault-append c [] hs = refl
group_fault-append c (g ∷ gs) hs = ap (option_or (fault c g)) (group_fault-append (after c g) gs hs) ∙ or_assoc (fault c g) (group_fault (after c g) gs) (group_fault (after_all (after c g) gs) hs)
  where
    or_assoc : (a b d : Option Refusal) → option_or a (option_or b d) ≡ option_or (option_or a b) d
    or_assoc (Some x) b d = refl
    or_assoc None b d = refl

by_limit : (o : Option Which) (f : Option Refusal) (later : Option Which) → (o ≡ None → f ≡ option_map Limit later) → option_or (option_map Limit o) f ≡ option_map Limit (option_or o later)
by_limit (Some which) f later h = refl
by_limit None f later h = h refl

module _ (shape : Shape) (db : Text) (distinct : Distinct shape.constants) (before : TablesValue) where
  abbrev constants : Row
  constants = shape.constants

  -- what a line with those of its row comes to
  line_said : (rs : List RelationValue) (ts : TablesValue) → AreTables ts → AreSaid constants rs ts → (line : TableLine) (lines : List TableLine) → fit_lines ts (line ∷ lines) ≡ true → IsDynamic constants line
      → IsSaid constants db (after_all (whole db rs) (lifted_line db constants (table_at ts (label_of line)) (attributes_of (whole db rs) db (label_of line)) line lines)) (after_lines (after_line ts line) (pending (row_of line) lines))
  line_said rs ts order said (TableMinus label) lines fits dynamic = table_went constants db distinct rs ts order said label lines
  line_said rs ts order said (TablePlus label) lines fits dynamic = table_came constants db distinct rs ts order said label lines
  line_said rs ts order said (RowMinus label key) lines fits dynamic = row_gone constants db distinct rs ts order said label key lines (and_first _ _ fits)
  line_said rs ts order said (ColumnMinus label column) lines fits dynamic = column_gone constants db distinct rs ts order said label column lines (and_first _ _ fits)
  line_said rs ts order said (ColumnPlus label column) lines fits dynamic = column_new constants db distinct rs ts order said label column lines (and_first _ _ fits) dynamic
  line_said rs ts order said (RowPlus label key) lines fits dynamic =
      subst (λ (us : TablesValue). IsSaid constants db (after_all (whole db rs) (lifted_line db constants (table_at ts label) (attributes_of (whole db rs) db label) (RowPlus label key) lines)) us)
      (sym (after_row label key (front_cells label key lines) ts))
      (row_new constants db distinct rs ts order said label key (front_cells label key lines) (λ t e. row_fits label key lines ts t e fits))
  line_said rs ts order said (Cell label column value key) lines fits dynamic =
      subst (λ (us : TablesValue). IsSaid constants db (after_all (whole db rs) (lifted_line db constants (table_at ts label) (attributes_of (whole db rs) db label) (Cell label column value key) lines)) us)
      (sym (after_cells label key ((column, value) ∷ front_cells label key lines) ts))
      (row_changes constants db distinct rs ts order said label key ((column, value) ∷ front_cells label key lines) there)
    where
      there : (t : TableValue) → table_of ts label ≡ Some t → (has_row key t ≡ true) × HasColumns t ((column, value) ∷ front_cells label key lines)
      there t e =
          let first = and_first (fits_label ts (Cell label column value key)) (fit_lines (after_line ts (Cell label column value key)) lines) fits in
          let both : (has_row key t && has_column column t) ≡ true = sym (ap (λ (o : Option TableValue). option_map_or (fits_table (Cell label column value key)) o false) e) ∙ first in
          let front = cells_fit label key (Cell label column value key ∷ lines) ts t e fits in
          let same : (text_eq label label && row_eq key key) ≡ true = rw (same_bytes label, same_rows key) refl in
          (and_first (has_row key t) (has_column column t) both, subst (λ (b : Bool). HasColumns t (cond b ((column, value) ∷ front_cells label key lines) [])) same front)

  -- lines make what they say of the catalogue, and the first change that is refused is refused by the first limit that is passed
  record AreMade (d : CatalogueValue) (gs : List Change) (ts : TablesValue) (lines : List TableLine) : Type 0 where
    said : IsSaid constants db (after_all d gs) (after_lines ts lines)
    judged : 1 ≤ length constants → AllByRecursion (IsLegal shape) lines → first_limit (database_for db shape ts) ≡ None → group_fault d gs ≡ option_map Limit (lifted_limit db shape ts lines)

  abbrev Behind : CatalogueValue → Option (Text × Row) → Option (Text × Row) → List TableLine → Type 0
  Behind c left row lines =
      (rs : List RelationValue) (ts : TablesValue) → AreTables ts → AreSaid constants rs (after_lines ts (pending row lines)) → Heads c db left rs lines → Leaves left lines → AreBlocks lines
      → fit_lines ts lines ≡ true → AllByRecursion (IsDynamic constants) lines → Reads before ts row lines
      → AreMade (whole db rs) (lifted_behind db constants before c left row lines) ts lines

  lines_made : (c : CatalogueValue) (lines : List TableLine) (left row : Option (Text × Row)) → Behind c left row lines
  lines_made c [] left row rs ts order said heads leaves blocks fits dynamic reads = record { said = (rs, refl, subst (λ (ls : List TableLine). AreSaid constants rs (after_lines ts ls)) (none_pending row) said); judged = λ some legal within. refl }
  lines_made c (line ∷ lines) left row rs ts order said heads leaves blocks fits dynamic reads = by_on (goes_on row line) refl (lines_made c lines left_then (row_of line))
    where
      left_then : Option (Text × Row)
      left_then = Some (label_of line, names_after constants line (names_of c db left (label_of line)))

      more : List Change
      more = lifted_behind db constants before c left_then (row_of line) lines

      here_names : names_of c db left (label_of line) ≡ attributes_of (whole db rs) db (label_of line)
      here_names = heads (label_of line) (ap (λ (b : Bool). b || is_in (label_of line) (map label_of lines)) (same_bytes (label_of line)))

      first : fits_line ts line ≡ true
      first = and_first (fits_line ts line) (fit_lines (after_line ts line) lines) fits

      second : fit_lines (after_line ts line) lines ≡ true
      second = and_second (fits_line ts line) (fit_lines (after_line ts line) lines) fits

      order_then : AreTables (after_line ts line)
      order_then = after_in_order ts line order first

      by_on : (b : Bool) → goes_on row line ≡ b → Behind c left_then (row_of line) lines → AreMade (whole db rs) (lifted_behind db constants before c left row (line ∷ lines)) ts (line ∷ lines)
      by_on true e rest =
          let heads_then = next_heads constants c db left rs rs line lines heads leaves (λ l.
          sym (ap (λ (ns : Row). cond (text_eq l (label_of line)) ns (attributes_of (whole db rs) db l)) (own_names (attributes_of (whole db rs) db l) constants row line e) ∙ same_both (text_eq l (label_of line)) (attributes_of (whole db rs) db l))) in
          let later = rest rs (after_line ts line) order_then (subst (λ (ls : List TableLine). AreSaid constants rs (after_lines ts ls)) (on_pending row line lines e) said) heads_then blocks.0 blocks.1 second dynamic.1 reads.1 in
          rw e (record {
            said = later.said;
            judged = λ some legal within.
                let still = goes_on_within shape db ts row line order within e first in
                later.judged some legal.1 still ∙ sym (ap (λ (o : Option Which). option_map Limit (option_or o (lifted_limit db shape (after_line ts line) lines))) still);
          })
      by_on false e rest =
          let now = subst (λ (ls : List TableLine). AreSaid constants rs (after_lines ts ls)) (off_pending row line lines e) said in
          let here = line_said rs ts order now line lines fits dynamic.0 in
          let at = table_at before (label_of line) in
          let same = ap (λ (ns : Row). lifted_line db constants at ns line lines) here_names ∙ same_line constants db before rs ts now line lines first (reads.0 e) in
          let changes = lifted_line db constants at (names_of c db left (label_of line)) line lines in
          let comes : after_all (whole db rs) changes ≡ whole db here.0 = ap (after_all (whole db rs)) same ∙ here.1 in
          let heads_then = next_heads constants c db left rs here.0 line lines heads leaves (λ l.
          ap (λ (d : CatalogueValue). attributes_of d db l) (sym comes) ∙ after_names constants db rs ts now at (names_of c db left (label_of line)) line lines l first) in
          let later = rest here.0 (after_line ts line) order_then here.2 heads_then blocks.0 blocks.1 second dynamic.1 reads.1 in
          let there = subst (λ (d : CatalogueValue). IsSaid constants db (after_all d more) (after_lines ts (line ∷ lines))) (sym comes) later.said in
          rw e (record {
            said = subst (λ (d : CatalogueValue). IsSaid constants db d (after_lines ts (line ∷ lines))) (sym (after_all-append (whole db rs) changes more)) there;
            judged = λ some legal within.
                let own = ap (group_fault (whole db rs)) same ∙ line_judged shape db distinct some rs ts order now within line lines first dynamic.0 legal.0 in
                group_fault-append (whole db rs) changes more
                ∙ ap (λ (d : CatalogueValue). option_or (group_fault (whole db rs) changes) (group_fault d more)) comes
                ∙ ap (λ (o : Option Refusal). option_or o (group_fault (whole db here.0) more)) own
                ∙ by_limit (first_limit (database_for db shape (after_line ts line))) (group_fault (whole db here.0) more) (lifted_limit db shape (after_line ts line) lines) (later.judged some legal.1);
          })

-- ---- the lines of a script
-- a table that is found fits
found_fits : (shape : Shape) (ts : TablesValue) → TablesFit shape ts → (l : Text) (t : TableValue) → table_of ts l ≡ Some t → TableFits shape l t
found_fits shape [] fit l t e = absurd (cc)
found_fits shape (p ∷ ps) fit l t e = by_name (text_eq l p.0) refl (found_fits shape ps fit.1 l t)
  where
    by_name : (b : Bool) → text_eq l p.0 ≡ b → (table_of ps l ≡ Some t → TableFits shape l t) → TableFits shape l t
    by_name true k rest =
        let same : p.1 ≡ t = ap (λ (o : Option TableValue). unwrap_or o t) (sym (ap (λ (b : Bool). cond b (Some p.1) (table_of ps l)) k) ∙ e) in
        subst (TableFits shape l) same (subst (λ (m : Text). TableFits shape m p.1) (sym (bytes_same l p.0 k)) fit.0)
    by_name false k rest = rest (sym (ap (λ (b : Bool). cond b (Some p.1) (table_of ps l)) k) ∙ e)

module _ (shape : Shape) (db : Text) (c : CatalogueValue) (old new : TablesValue) (form : IsForm shape) (sound : IsSound c) (order : AreTables old) (order_then : AreTables new) (fit : TablesFit shape old) (fit_then : TablesFit shape new)
    (h : stands db shape old c) where
  now : (rs : List RelationValue) × (c ≡ whole db rs) × AreSaid shape.constants rs old
  now = stands_said shape db c old sound order fit h

  at_whole : AreMade shape db (are_distinct shape.constants form.distinct) old (whole db now.0) (lifted db shape.constants old (whole db now.0) (script old new)) old (script old new)
  at_whole = lines_made shape db (are_distinct shape.constants form.distinct) old (whole db now.0) (script old new) None None now.0 old order now.2 (λ l there. refl) tt (script_blocks old new order order_then)
      (script_fits old new order_then order) (script_dynamic old new order order_then shape.constants (λ l t e. columns_dynamic shape.constants t.columns (found_fits shape new fit_then l t e).columns)) (script_reads old new order order_then)

  ends : AreMade shape db (are_distinct shape.constants form.distinct) old c (lifted db shape.constants old c (script old new)) old (script old new)
  ends = subst (λ (d : CatalogueValue). AreMade shape db (are_distinct shape.constants form.distinct) old d (lifted db shape.constants old d (script old new)) old (script old new)) (sym now.1) at_whole

  pub lift_law : stands db shape new (after_all c (lifted db shape.constants old c (script old new)))
  lift_law =
      let said = subst (λ (ts : TablesValue). IsSaid shape.constants db (after_all c (lifted db shape.constants old c (script old new))) ts) (script_makes old new order_then order) ends.said in
      subst (λ (d : CatalogueValue). stands db shape new d) (sym said.1) (said_stands shape db said.0 new order_then fit_then said.2)

  pub limit_law : 1 ≤ length shape.constants → group_fault c (lifted db shape.constants old c (script old new)) ≡ option_map Limit (lifted_limit db shape old (script old new))
  limit_law some = ends.judged some (script_legal old new order order_then shape (found_fits shape new fit_then)) (sound_within shape db now.0 old (subst IsSound now.1 sound) now.2 fit)
