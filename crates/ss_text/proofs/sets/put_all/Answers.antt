use Rattle.std.proofs.Common.{◌∙◌, ap, sym, arith}
use Rattle.std.proofs.lemmas.List.{append-nil, nil_from_length}
use Rattle.std.specs.Vec.Iter.{into_iter_items}
use Rattle.ss_text.specs.Ascending.{ascending}
use Rattle.ss_text.proofs.Ascends.{ascending_itself, put_first}
use Rattle.ss_text.proofs.sets.put_all.Goals as goal

pub loop-item-preserved : goal.loop-item-preserved
loop-item-preserved g c =
    let R = g.T.Ord.cmp in
    let rest = into_iter_items c.next.new.self in
    let taken = c.in-Some.ensures.steps.0 in
    let invariant = rw taken at c.loop-item.invariant in
    record {
      ascend = c.put.ensures.ascend;
      room = omega (arith, invariant.room, c.put.ensures.one, c.put.ensures.capacity);
      items = rw (c.put.ensures.items, put_first R g.met.T.Ord.total c.requires.same c.loop-item.items.items c.in-Some.item rest) invariant.items;
    }

pub returns-clause-items : goal.returns-clause-items
returns-clause-items g c =
    let R = g.T.Ord.cmp in
    let items = c.loop-item.items.items in
    let none = nil_from_length (into_iter_items c.loop-item.item-iterator) (omega (arith, c.in-None.ensures.steps.0, c.loop-item.item-iterator.rest.ok.0)) in
    let invariant = rw none at c.loop-item.invariant in
    sym (ascending_itself R items invariant.ascend) ∙ ap (ascending R) (sym (append-nil items)) ∙ invariant.items
