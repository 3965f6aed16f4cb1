-- The one table of a constant label.
use Rattle.std.proofs.Common.{◌≡◌, ◌∷◌, [], ℕ, List, None, true, refl, sym, ◌∙◌, ap, map, filter, not, length}
use Rattle.std.specs.Prelude.{nat_lt, IsTrue}
use Rattle.ss_text.specs.Texts.{Text, Row}
use Rattle.ss_text.specs.Label.{is_table_label}
use Rattle.flow_law.specs.declared.shape.Shape.{Shape}
use Rattle.flow_law.specs.declared.line.TableLine.{TableLine}
use Rattle.flow_law.specs.declared.refused.EvalFault.{EvalFault}
use Rattle.flow_law.specs.declared.refused.EvalFault.TheVariants as eval
use Rattle.flow_law.specs.Facts.{Fact, illegal, illegal_table, illegal_column, conflict, refusal_by}
use Rattle.flow_law.specs.FactTables.{fact_table, tables}
use Rattle.flow_law.specs.Labelled.{AllBear}
use Rattle.flow_law.specs.Lines.{fit_lines, after_lines}
use Rattle.flow_law.specs.Script.{lines_between, script}
use Rattle.flow_law.specs.Faults.{IsFaultOf}
use Rattle.flow_law.proofs.FactTableLemmas.{constant_tables, tables_in_order}
use Rattle.flow_law.proofs.ScriptLaw.{script_makes, script_fits}
use Rattle.operator_law.specs.declared.delta.Signed.{Signed}
use Rattle.operator_law.specs.Bags.{MovesBag}
use Rattle.unfold_op.specs.Stopped.{StopsFor}
use Rattle.unfold_op.proofs.TouchedLines.{changed_is_touched}
use Rattle.unfold_op.specs.FactMoves.{facts_in, fact_moves, facts_moved}
use Rattle.unfold_op.specs.OneTables.{OneTableValue, GivesLines, framed, label_for}
use Rattle.unfold_op.proofs.BagMoves.{facts_move, facts_length}
use Rattle.unfold_op.proofs.LabelsBorne.{bear_after}
use Rattle.unfold_op.proofs.TableLaw.{script_alone}
use Rattle.split_op.specs.Tables.{Fits, ScriptLines}
use Rattle.split_op.specs.Wholes.{labelled, KeepsWhole, CanPrepareWhole}
use Rattle.unfold_op.specs.Touched.{SameBeyond}
use Rattle.unfold_op.proofs.CountLemmas.{beyond_moves}

pub beyond : (form : Shape) (old new : List Row) (ms : List Signed) → MovesBag old ms new → SameBeyond (facts_moved form ms) (facts_in form old) (facts_in form new)
beyond form old new ms h = beyond_moves (facts_in form old) (fact_moves form ms) (facts_in form new) (facts_move form old new ms h)

-- facts that bear a legal label have no illegal table
pub legal_table : (label : Text) → is_table_label label ≡ true → (fs : List Fact) → AllBear label fs → illegal_table fs ≡ None
legal_table label legal fs h = rw (none fs h) refl
  where
    none : (gs : List Fact) → AllBear label gs → filter (λ (t : Text). not (is_table_label t)) (map (λ (f : Fact). f.label) gs) ≡ []
    none [] i = refl
    none (g ∷ gs) i = rw (i.0, legal) (none gs i.1)

-- where no table is illegal, an illegal column comes before a conflict
pub stop_is : (shape : Shape) (fs : List Fact) → illegal_table fs ≡ None → (s : EvalFault) → StopsFor (illegal_column shape.constants fs) (conflict fs) s → IsFaultOf shape fs s
unfolding refusal_by illegal
stop_is shape fs none (eval.Illegal l) h = rw (none, h) refl
stop_is shape fs none (eval.Conflict c) h = rw (none, h.0, h.1) refl
stop_is shape fs none eval.NoMemory h = tt

pub none_illegal : (shape : Shape) (fs : List Fact) → illegal_table fs ≡ None → illegal_column shape.constants fs ≡ None → illegal shape fs ≡ None
unfolding illegal
none_illegal shape fs t c = rw (t, c) refl

module _ (label : Text) (t : OneTableValue) (ms : List Signed) (can : CanPrepareWhole label t ms) where
  abbrev shape : Shape
  shape = labelled label t.shape

  pub fits_whole : Fits t.shape label can.old ms can.new
  fits_whole = record { bear = can.keeps.bear; moved = can.bears.bear; wide = can.bears.wide; moves = can.moves; few = can.few }

  module _ (old new : List Row) (h : KeepsWhole label t old) (moves : MovesBag old ms new) where
    pub bear_new : AllBear label (facts_in t.shape new)
    bear_new = bear_after label (facts_in t.shape old) (fact_moves t.shape ms) (facts_in t.shape new) (facts_move t.shape old new ms moves) h.bear can.bears.bear

    -- lines that are made for the kept label are made for this one
    same_label : (ns : List Signed) → MovesBag old ns new → AllBear label (facts_moved t.shape ns)
        → lines_between (label_for t.shape t.label ns) (fact_table (facts_in t.shape old)) (fact_table (facts_in t.shape new)) ≡ lines_between label (fact_table (facts_in t.shape old)) (fact_table (facts_in t.shape new))
    same_label [] m b =
        changed_is_touched t.label [] (facts_in t.shape old) (facts_in t.shape new) (beyond t.shape old new [] m)
        ∙ sym (changed_is_touched label [] (facts_in t.shape old) (facts_in t.shape new) (beyond t.shape old new [] m))
    same_label (n ∷ ns) m b = ap (λ (k : Text). lines_between k (fact_table (facts_in t.shape old)) (fact_table (facts_in t.shape new))) b.0

    -- and they are the script
    script_is : script (tables shape (facts_in t.shape old)) (tables shape (facts_in t.shape new)) ≡ lines_between label (fact_table (facts_in t.shape old)) (fact_table (facts_in t.shape new))
    script_is =
        (λ i. script (constant_tables label shape (facts_in t.shape old) refl h.bear i) (constant_tables label shape (facts_in t.shape new) refl bear_new i))
        ∙ script_alone label (fact_table (facts_in t.shape old)) (fact_table (facts_in t.shape new))

    pub gives_script : (lines : List TableLine) → GivesLines t ms lines old new
        → (out : List TableLine) → out ≡ lines_between (label_for t.shape t.label ms) (fact_table (facts_in t.shape old)) (fact_table (facts_in t.shape new))
        → ScriptLines shape out (facts_in t.shape old) (facts_in t.shape new)
    gives_script lines g out e = record {
      legal = none_illegal shape (facts_in t.shape new) (legal_table label h.legal (facts_in t.shape new) bear_new) g.legal;
      clean = g.clean;
      lines_are = e ∙ same_label ms moves can.bears.bear ∙ sym script_is;
    }

    pub stops_whole : (s : EvalFault) → StopsFor (illegal_column t.shape.constants (facts_in t.shape new)) (conflict (facts_in t.shape new)) s → IsFaultOf shape (facts_in t.shape new) s
    stops_whole s i = stop_is shape (facts_in t.shape new) (legal_table label h.legal (facts_in t.shape new) bear_new) s i

-- a script takes the tables before to those after, each line fitting
pub script_law : (shape : Shape) (old new : List Fact) (lines : List TableLine) → lines ≡ script (tables shape old) (tables shape new) → IsTrue (fit_lines (tables shape old) lines) × (tables shape new ≡ after_lines (tables shape old) lines)
script_law shape old new lines e =
    rw e (script_fits (tables shape old) (tables shape new) (tables_in_order shape new) (tables_in_order shape old), sym (script_makes (tables shape old) (tables shape new) (tables_in_order shape new) (tables_in_order shape old)))

-- the lines of one table with the flags of their frame
pub framed_lines : (t : OneTableValue) (ms : List Signed) (before after : ℕ) (old new : List Row) (lines : List TableLine) → before ≡ length old → after ≡ length new → GivesLines t ms lines old new
    → lines ≡ framed (label_for t.shape t.label ms) (nat_lt 0 before) (nat_lt 0 after) (lines_between (label_for t.shape t.label ms) (fact_table (facts_in t.shape old)) (fact_table (facts_in t.shape new)))
framed_lines t ms before after old new lines b a g =
    g.lines_are
    ∙ λ i. framed (label_for t.shape t.label ms) (nat_lt 0 ((facts_length t.shape old ∙ sym b) i)) (nat_lt 0 ((facts_length t.shape new ∙ sym a) i)) (lines_between (label_for t.shape t.label ms) (fact_table (facts_in t.shape old)) (fact_table (facts_in t.shape new)))
