-- What the fields of a bag are to each other.
use Rattle.std.specs.Prelude.{◌≡◌, ◌≤◌, ℕ, Some, length}
use Rattle.std.specs.Option.{option_map}
use Rattle.indexmap.specs.IndexMap.{IndexMap, get, spare}
use Rattle.ss_text.specs.Texts.{Row, row_eq}
use Rattle.counts.specs.Counted.{changed_get}
use Rattle.other_operators.specs.RowCounts.{BagValue, MovesRowCounts}
use Rattle.other_operators.specs.declared.bag.Waiting.{Waiting}
use Rattle.other_operators.specs.declared.bag.Bag.TheInside.{Inside}

abbrev pub seen : Inside → BagValue
seen b = record { counts = b.counts.entries; waiting = option_map (λ w. w.of.value) b.waiting }

-- what waits takes the counts to those after its change, and there is room for it
pub record IsReadyFor {S : Type 0} (counts : IndexMap Row ℕ S) (w : Waiting) : Type 0 where
  pub after : MovesRowCounts (get row_eq counts) w.of.value (changed_get row_eq w.counts.items (get row_eq counts))
  pub room : length w.counts.items ≤ spare counts

pub record IsBag (b : Inside) : Type 0 where
  pub ready : (w : Waiting) → b.waiting ≡ Some w → IsReadyFor b.counts w
