use Rattle.std.proofs.Common.{◌≡◌, ◌+◌, ◌≤◌, ◌++◌, length}
use Rattle.std.specs.List.Sorted.{IsStrictlySortedBy}
use Rattle.std.specs.Vec.{vec_len, vec_capacity}
use Rattle.std.specs.Vec.Iter.{into_iter_items}
use Rattle.ss_text.specs.Ascending.{ascending}
use Rattle.ss_text.proofs.sets.put_all.Given as goal

abbrev pub invariant-loop-item : goal.invariant-loop-item
invariant-loop-item g l = record {
  ascend : IsStrictlySortedBy g.T.Ord.cmp l.items.items;
  room : vec_len l.items + length (into_iter_items l.item-iterator) ≤ vec_capacity l.items;
  items : ascending g.T.Ord.cmp (l.items.items ++ into_iter_items l.item-iterator) ≡ ascending g.T.Ord.cmp (l.fn.items.items ++ l.fn.coming.items);
}
