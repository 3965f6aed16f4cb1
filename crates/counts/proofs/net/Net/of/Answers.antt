use Rattle.std.proofs.Common.{[], ◌∙◌, ap, sym, arith, map, cond}
use Rattle.std.specs.Prelude.{◌&&◌, not}
use Rattle.std.proofs.lemmas.List.{append-nil, nil_from_length}
use Rattle.std.proofs.lemmas.List.Sums.{sum_by-cons, count_by-le-length}
use Rattle.std.proofs.lemmas.List.Sorted.{sum_by-IsPermutation}
use Rattle.std.specs.Vec.Iter.{into_iter_items}
use Rattle.ss_text.specs.Ascending.{ascending}
use Rattle.ss_text.proofs.AscendingLemmas.{ascending_ascends}
use Rattle.ss_text.proofs.Ascends.{ascending_itself, put_first}
use Rattle.counts.specs.declared.moves.Move.{Move}
use Rattle.counts.specs.Counted.{keys_of}
use Rattle.counts.proofs.TallyLemmas.{keys_permuted}
use Rattle.counts.proofs.net.Net.of.Goals as goal

pub loop-m-init : goal.loop-m-init
loop-m-init g c =
    let moves = c.args.moves.items in
    let sorted = c.sort_unstable_by.new.self.items in
    let same = c.sort_unstable_by.ensures.permutation in
    rw (c.new-tallies.ensures.items, c.into_iter-m-iterator.ensures.into_iter_gives.0) (record {
      ascend = ascending_ascends g.K.Ord.cmp g.met.K.Ord.total [];
      ups = λ q. let as_often = sum_by-IsPermutation (λ (m : Move _). cond (m.up && g.K.PartialEq.eq q m.key) 1 0) moves sorted same in omega (arith, as_often);
      downs = λ q. let as_often = sum_by-IsPermutation (λ (m : Move _). cond (not m.up && g.K.PartialEq.eq q m.key) 1 0) moves sorted same in omega (arith, as_often);
      keys = keys_permuted g.met.K.Ord.total g.met.K.Key.same moves sorted same;
    })

pub count-requires-clause-ups : goal.count-requires-clause-ups
count-requires-clause-ups g c =
    let few = count_by-le-length (λ (m : Move _). m.up && g.K.PartialEq.eq c.in-Some.m.key m.key) c.args.moves.items in
    omega (arith, c.loop-m.invariant.ups c.in-Some.m.key, few, c.args.moves.ok, c.args.moves.small)

pub loop-m-preserved : goal.loop-m-preserved
loop-m-preserved g c =
    let rest = into_iter_items c.next.new.self in
    let taken = c.in-Some.ensures.steps.0 in
    let invariant = rw taken at c.loop-m.invariant in
    record {
      ascend = c.in_ok-count.ensures.ascend;
      ups = λ q. let one = sum_by-cons (λ (m : Move _). cond (m.up && g.K.PartialEq.eq q m.key) 1 0) c.in-Some.m rest in omega (arith, invariant.ups q, one, c.in_ok-count.ensures.ups q);
      downs = λ q. let one = sum_by-cons (λ (m : Move _). cond (not m.up && g.K.PartialEq.eq q m.key) 1 0) c.in-Some.m rest in omega (arith, invariant.downs q, one, c.in_ok-count.ensures.downs q);
      keys = rw (c.in_ok-count.ensures.keys, put_first g.K.Ord.cmp g.met.K.Ord.total g.met.K.Key.same (keys_of c.loop-m.tallies.items) c.in-Some.m.key (map (λ (m : Move _). m.key) rest)) invariant.keys;
    }

pub returns-clause-keys : goal.returns-clause-keys
returns-clause-keys g c =
    let keys = keys_of c.loop-m.tallies.items in
    let none = nil_from_length (into_iter_items c.loop-m.m-iterator) (omega (arith, c.in-None.ensures.steps.0, c.loop-m.m-iterator.rest.ok.0)) in
    let invariant = rw none at c.loop-m.invariant in
    sym (ascending_itself g.K.Ord.cmp keys invariant.ascend) ∙ ap (ascending g.K.Ord.cmp) (sym (append-nil keys)) ∙ invariant.keys
