-- What waits in a bag.
use Rattle.std.proofs.Common.{◌≡◌, ◌≤◌, ℕ, List, Option, Some, None, length, subst}
use Rattle.std.specs.Option.{option_map}
use Rattle.indexmap.specs.IndexMap.{IndexMap, get, spare}
use Rattle.ss_text.specs.Texts.{Row, row_eq}
use Rattle.counts.specs.Counted.{changed_get}
use Rattle.other_operators.specs.BagFields.{IsReadyFor}
use Rattle.other_operators.specs.RowCounts.{MovesRowCounts}
use Rattle.operator_law.specs.declared.delta.Signed.{Signed}
use Rattle.other_operators.specs.declared.bag.Waiting.{Waiting}

pub same_waits : (o : Option Waiting) (w : Waiting) (ms : List Signed) → o ≡ Some w → option_map (λ (v : Waiting). v.of.value) o ≡ Some ms → ms ≡ w.of.value
same_waits None w ms e f = absurd (cc)
same_waits (Some v) w ms e f = cc

-- what was made ready for these moves
pub ready_for : {S : Type 0} (counts : IndexMap Row ℕ S) (w v : Waiting) (ms : List Signed) → Some w ≡ Some v → w.of.value ≡ ms
    → MovesRowCounts (get row_eq counts) ms (changed_get row_eq w.counts.items (get row_eq counts)) → length w.counts.items ≤ spare counts → IsReadyFor counts v
ready_for counts w v ms is e after room = subst (IsReadyFor counts) (let same : w ≡ v = cc in same) (record { after = rw e after; room = room })
