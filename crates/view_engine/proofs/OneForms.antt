-- The one table of a constant label, by the form of its view.
use Rattle.std.proofs.Common.{◌≡◌, ◌+◌, ℕ, List, [], ◌∷◌, Option, Some, None, refl, sym, ◌∙◌, ap, subst, map, length}
use Rattle.std.specs.Prelude.{is_some}
use Rattle.std.specs.Option.{option_or}
use Rattle.std.specs.Prelude.{Result, Ok, Err, IfOk, IfErr}
use Rattle.ss_text.specs.Texts.{Text, Row}
use Rattle.flow_law.specs.declared.shape.Shape.{Shape}
use Rattle.flow_law.specs.declared.line.TableLine.{TableLine}
use Rattle.flow_law.specs.declared.refused.EvalFault.{EvalFault}
use Rattle.flow_law.specs.declared.refused.EvalFault.TheVariants as eval
use Rattle.flow_law.specs.declared.refused.IllegalLabel.{IllegalLabel}
use Rattle.flow_law.specs.Facts.{Fact, illegal, illegal_table, illegal_column, conflict, refusal_by}
use Rattle.flow_law.specs.FactRows.{row_width, fact_width, cell_behind, fact_row, fact_in, IsFactOf}
use Rattle.flow_law.specs.FactTables.{tables}
use Rattle.flow_law.specs.Labelled.{AllBear, BearLabel}
use Rattle.flow_law.specs.Script.{script}
use Rattle.flow_law.specs.Faults.{IsFaultOf}
use Rattle.operator_law.specs.declared.delta.Signed.{Signed}
use Rattle.unfold_op.specs.FactMoves.{facts_in, facts_moved}
use Rattle.unfold_op.specs.OneTables.{OneTableValue}
use Rattle.split_op.specs.Tables.{ScriptLines}
use Rattle.split_op.specs.Wholes.{labelled, KeepsWhole, CanKeepWhole, CanAddWhole, BearsLabel, CanPrepareWhole}
use Rattle.view_engine.specs.Forms.{KeepsOne, MovesForm, CanKeepTables}

-- a row has the same cell, and as many texts, where both forms have a variable column or neither has
cell_alike : (n : ℕ) (row : Row) (a b : Option ℕ) → is_some a ≡ is_some b → cell_behind n row a ≡ cell_behind n row b
cell_alike n row None None e = refl
cell_alike n row None (Some k) e = absurd (cc)
cell_alike n row (Some j) None e = absurd (cc)
cell_alike n row (Some j) (Some k) e = refl

wide_alike : (n : ℕ) (a b : Option ℕ) → is_some a ≡ is_some b → row_width n a ≡ row_width n b
wide_alike n None None e = refl
wide_alike n None (Some k) e = absurd (cc)
wide_alike n (Some j) None e = absurd (cc)
wide_alike n (Some j) (Some k) e = refl

module _ (a b : Shape) (constants : a.constants ≡ b.constants) (variable : is_some a.spot ≡ is_some b.spot) where
  fact_alike : (row : Row) → fact_in a row ≡ fact_in b row
  fact_alike row =
      ap (λ (ks : Row). fact_in (record { label = a.label; constants = ks; spot = a.spot }) row) constants
      ∙ ap (λ (cell : Option (Text × Text)). let f : Fact = record { label = (fact_in b row).label; key = (fact_in b row).key; cell = cell } in f) (cell_alike (length b.constants + 1) row a.spot b.spot variable)

  pub facts_alike : (rows : List Row) → facts_in a rows ≡ facts_in b rows
  facts_alike rows = λ i. map (λ row. fact_alike row i) rows

  pub moved_alike : (ms : List Signed) → facts_moved a ms ≡ facts_moved b ms
  moved_alike [] = refl
  moved_alike (m ∷ ms) = λ i. fact_alike m.row i ∷ moved_alike ms i

  pub width_alike : fact_width a ≡ fact_width b
  width_alike = ap (λ (ks : Row). row_width (length ks) a.spot) constants ∙ wide_alike (length b.constants) a.spot b.spot variable

  pub illegal_alike : (fs : List Fact) → illegal a fs ≡ illegal b fs
  unfolding illegal
  illegal_alike fs = rw constants refl

-- tables and refusals do not depend on the place of the variable column
tables_alike : (a b : Shape) → a.label ≡ b.label → (fs : List Fact) → tables a fs ≡ tables b fs
unfolding tables
tables_alike a b e fs = rw e refl

stop_alike : (a b : Shape) (fs gs : List Fact) → illegal a fs ≡ illegal b gs → conflict fs ≡ conflict gs → (s : EvalFault) → IsFaultOf a fs s → IsFaultOf b gs s
unfolding refusal_by
stop_alike a b fs gs i k eval.NoMemory h = tt
stop_alike a b fs gs i k (eval.Illegal l) h = rw (sym i, sym k) h
stop_alike a b fs gs i k (eval.Conflict l) h = rw (sym i, sym k) h

-- no column is illegal where no label is
legal_column : (shape : Shape) (fs : List Fact) → illegal shape fs ≡ None → illegal_column shape.constants fs ≡ None
unfolding illegal
legal_column shape fs h = second (illegal_table fs) (illegal_column shape.constants fs) h
  where
    second : (a b : Option IllegalLabel) → option_or a b ≡ None → b ≡ None
    second None b e = e
    second (Some l) b e = absurd (cc)

module _ (shape : Shape) (label : Text) (t : OneTableValue) where
  bears : (o : Option Text) → o ≡ Some label → (fs : List Fact) → BearLabel o fs → AllBear label fs
  bears o e fs h = subst (λ (l : Option Text). BearLabel l fs) e h

  module _ (old : List Row) (h : KeepsOne shape label t old) where
    -- the facts are those of the operator's form
    same_facts : (rows : List Row) → facts_in t.shape rows ≡ facts_in shape rows
    same_facts rows = facts_alike t.shape shape h.columns.constants h.columns.variable rows

    same_illegal : (new : List Row) → illegal t.shape (facts_in t.shape new) ≡ illegal shape (facts_in shape new)
    same_illegal new = ap (illegal t.shape) (same_facts new) ∙ illegal_alike t.shape shape h.columns.constants h.columns.variable (facts_in shape new)

    pub script_one : (new : List Row) (lines : List TableLine) → ScriptLines (labelled label t.shape) lines (facts_in t.shape old) (facts_in t.shape new) → ScriptLines shape lines (facts_in shape old) (facts_in shape new)
    script_one new lines s =
        let form = labelled label t.shape in
        let tables_same : (rows : List Row) → tables form (facts_in t.shape rows) ≡ tables shape (facts_in shape rows) =
        λ rows. ap (tables form) (same_facts rows) ∙ tables_alike form shape (sym h.label_is) (facts_in shape rows) in
        record {
          legal = sym (illegal_alike form shape h.columns.constants h.columns.variable (facts_in shape new)) ∙ ap (illegal form) (sym (same_facts new)) ∙ s.legal;
          clean = ap conflict (sym (same_facts new)) ∙ s.clean;
          lines_are = s.lines_are ∙ (λ i. script (tables_same old i) (tables_same new i));
        }

    pub stop_one : (new : List Row) (s : EvalFault) → IsFaultOf (labelled label t.shape) (facts_in t.shape new) s → IsFaultOf shape (facts_in shape new) s
    stop_one new s i =
        let form = labelled label t.shape in
        stop_alike form shape (facts_in t.shape new) (facts_in shape new)
        (ap (illegal form) (same_facts new) ∙ illegal_alike form shape h.columns.constants h.columns.variable (facts_in shape new))
        (ap conflict (same_facts new)) s i

    pub bears_one : (ms : List Signed) (new : List Row) → MovesForm shape ms old new → BearsLabel label t.shape ms
    bears_one ms new m = record {
      bear = subst (AllBear label) (sym (moved_alike t.shape shape h.columns.constants h.columns.variable ms)) (bears shape.label h.label_is (facts_moved shape ms) m.bear);
      wide = λ k d lt. m.wide k d lt ∙ sym (width_alike t.shape shape h.columns.constants h.columns.variable);
    }

    pub can_prepare_one : (ms : List Signed) (new : List Row) → MovesForm shape ms old new → CanPrepareWhole label t ms
    can_prepare_one ms new m = record { bears = bears_one ms new m; old = old; new = new; keeps = h.keeps; moves = m.moves; few = m.few }

    pub can_keep_one : (new : List Row) → CanKeepTables shape new → CanKeepWhole label t.shape new
    can_keep_one new can = record {
      can = record { few = can.few; legal = legal_column t.shape (facts_in t.shape new) (same_illegal new ∙ can.legal); clean = ap conflict (same_facts new) ∙ can.clean };
      bear = subst (AllBear label) (sym (same_facts new)) (bears shape.label h.label_is (facts_in shape new) can.bear);
    }

    -- an operator like this one, which keeps facts, does so for the same form
    pub keeps_on : (other : Text) (s : OneTableValue) → label ≡ other → t.shape ≡ s.shape → (new : List Row) → KeepsWhole other s new → KeepsOne shape other s new
    keeps_on other s l f new k = record {
      label_is = h.label_is ∙ ap (λ (x : Text). Some x) l;
      columns = record {
        constants = ap (λ (x : Shape). x.constants) (sym f) ∙ h.columns.constants;
        variable = ap (λ (x : Shape). is_some x.spot) (sym f) ∙ h.columns.variable;
      };
      keeps = k;
    }

    -- a fact that comes to the table, by its key and its cell
    module _ (f : Fact) (key : Row) (cell : Option (Text × Text)) (key_is : key ≡ f.key) (cell_is : cell ≡ f.cell) (form : IsFactOf shape f) (can : CanKeepTables shape (fact_row f ∷ old)) where
      abbrev own : Fact
      own = record { label = label; key = key; cell = cell }

      own_is : f ≡ own
      own_is = λ i. record { label = (can_keep_one (fact_row f ∷ old) can).bear.0 i; key = sym key_is i; cell = sym cell_is i }

      pub can_add_one : CanAddWhole label t own old
      can_add_one = record {
        keeps = h.keeps;
        form = subst (IsFactOf t.shape) own_is (record { key = form.key ∙ ap length (sym h.columns.constants); cell = form.cell ∙ sym h.columns.variable });
        can = subst (λ (g : Fact). CanKeepWhole label t.shape (fact_row g ∷ old)) own_is (can_keep_one (fact_row f ∷ old) can);
      }

      pub kept_one : (other : Text) (s : OneTableValue) → label ≡ other → t.shape ≡ s.shape → KeepsWhole other s (fact_row own ∷ old) → KeepsOne shape other s (fact_row f ∷ old)
      kept_one other s l e k = keeps_on other s l e (fact_row f ∷ old) (subst (λ (g : Fact). KeepsWhole other s (fact_row g ∷ old)) (sym own_is) k)

-- what holds of a value holds of what is made of it
pub told_ok : {T E : Type 0} (P Q : T → Type 0) (r : Result T E) → ((v : T) → P v → Q v) → IfOk r P → IfOk r Q
told_ok P Q (Ok v) f h = f v h
told_ok P Q (Err e) f h = tt

pub told_err : {T E : Type 0} (P Q : E → Type 0) (r : Result T E) → ((e : E) → P e → Q e) → IfErr r P → IfErr r Q
told_err P Q (Ok v) f h = tt
told_err P Q (Err e) f h = f e h
