-- Moves that fit the facts of one label can be prepared by its operator.
use Rattle.std.proofs.Common.{◌≡◌, ◌<◌, ◌∷◌, [], List, sym, ◌∙◌, length, arith}
use Rattle.ss_text.specs.Texts.{Text, Row}
use Rattle.flow_law.specs.Labelled.{AllBear}
use Rattle.operator_law.specs.declared.delta.Signed.{Signed}
use Rattle.unfold_op.specs.FactMoves.{facts_in}
use Rattle.unfold_op.specs.OneTables.{OneTableValue, KeepsFacts, BearsOne, CanPrepare}
use Rattle.split_op.specs.Tables.{Fits}

module _ (t : OneTableValue) (label : Text) (ms : List Signed) where
  pub bears_one : (old new : List Row) → KeepsFacts t old → Fits t.shape label old ms new → BearsOne t.shape t.label t.total ms
  bears_one old new h f = record { label = label; bear = f.moved; same = same old h.total h.bear f.bear; wide = f.wide }
    where
      same : (rows : List Row) → t.total ≡ length rows → AllBear t.label (facts_in t.shape rows) → AllBear label (facts_in t.shape rows) → 0 < t.total → t.label ≡ label
      same [] e kept own some = absurd (omega (arith, e, some))
      same (row ∷ rows) e kept own some = sym kept.0 ∙ own.0

  pub can_prepare : (old new : List Row) → KeepsFacts t old → Fits t.shape label old ms new → CanPrepare t ms
  can_prepare old new h f = record { bears = bears_one old new h f; old = old; new = new; keeps = h; moves = f.moves; few = f.few }
