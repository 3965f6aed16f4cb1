-- Facts without columns are never refused.
use Rattle.std.proofs.Common.{◌≡◌, ◌∷◌, [], List, None, refl, subst}
use Rattle.std.specs.Prelude.{Option, option_map}
use Rattle.std.specs.List.{filter_map}
use Rattle.ss_text.specs.Texts.{Text, Row}
use Rattle.flow_law.specs.declared.shape.Shape.{Shape}
use Rattle.flow_law.specs.declared.refused.Clash.{Clash}
use Rattle.flow_law.specs.declared.refused.IllegalLabel.{IllegalLabel}
use Rattle.flow_law.specs.declared.refused.EvalFault.{EvalFault}
use Rattle.flow_law.specs.declared.refused.EvalFault.TheVariants as eval
use Rattle.flow_law.specs.Facts.{Fact, Pair, Spot, column_of, illegal_column, conflict}
use Rattle.unfold_op.specs.Stopped.{StopsFor}
use Rattle.unfold_op.specs.FactMoves.{facts_in}
use Rattle.unfold_op.specs.OneTables.{OneTableValue, CanPrepare, MayStop}
use Rattle.operator_law.specs.declared.delta.Signed.{Signed}

only_memory : (s : EvalFault) → StopsFor None None s → s ≡ eval.NoMemory
only_memory (eval.Illegal l) h = absurd (cc)
only_memory (eval.Conflict c) h = absurd (let e = h.1 in cc)
only_memory eval.NoMemory h = refl

module _ (shape : Shape) (plain : shape.spot ≡ None) where
  -- nothing is made of columns that are not there
  none_made : {B : Type 0} (h : Fact → Text → B) (rows : List Row) → filter_map (λ (f : Fact). option_map (h f) (column_of f)) (facts_in shape rows) ≡ []
  none_made h [] = refl
  none_made h (row ∷ rows) = rw plain (none_made h rows)

  no_illegal : (rows : List Row) → illegal_column shape.constants (facts_in shape rows) ≡ None
  no_illegal rows = rw (none_made (λ (f : Fact) (column : Text). let p : Pair = (f.label, column) in p) rows) refl

  no_conflict : (rows : List Row) → conflict (facts_in shape rows) ≡ None
  unfolding conflict
  no_conflict rows = rw (none_made (λ (f : Fact) (column : Text). let s : Spot = (f.label, f.key, column) in s) rows) refl

pub never_refused : (t : OneTableValue) (ms : List Signed) (s : EvalFault) → t.shape.spot ≡ None → CanPrepare t ms → MayStop t ms s → s ≡ eval.NoMemory
never_refused t ms s plain can h =
    only_memory s (subst (λ (p : Option IllegalLabel × Option Clash). StopsFor p.0 p.1 s) (λ i. (no_illegal t.shape plain can.new i, no_conflict t.shape plain can.new i)) (h can.old can.new can.keeps can.moves))
