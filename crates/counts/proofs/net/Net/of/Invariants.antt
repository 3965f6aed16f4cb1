use Rattle.std.proofs.Common.{◌≡◌, ◌+◌, ◌++◌, map}
use Rattle.std.specs.List.Sorted.{IsStrictlySortedBy}
use Rattle.std.specs.Vec.Iter.{into_iter_items}
use Rattle.ss_text.specs.Ascending.{ascending}
use Rattle.counts.specs.declared.moves.Move.{Move}
use Rattle.counts.specs.Counted.{keys_of, come, go, ups_in, downs_in}
use Rattle.counts.proofs.net.Net.of.Given as goal

abbrev pub invariant-loop-m : goal.invariant-loop-m
invariant-loop-m g l =
    let rest = into_iter_items l.m-iterator in
    record {
      ascend : IsStrictlySortedBy g.K.Ord.cmp (keys_of l.tallies.items);
      ups : (q : _) → ups_in g.K.PartialEq.eq l.tallies.items q + come g.K.PartialEq.eq rest q ≡ come g.K.PartialEq.eq l.fn.moves.items q;
      downs : (q : _) → downs_in g.K.PartialEq.eq l.tallies.items q + go g.K.PartialEq.eq rest q ≡ go g.K.PartialEq.eq l.fn.moves.items q;
      keys : ascending g.K.Ord.cmp (keys_of l.tallies.items ++ map (λ (m : Move _). m.key) rest) ≡ ascending g.K.Ord.cmp (map (λ (m : Move _). m.key) l.fn.moves.items);
    }
