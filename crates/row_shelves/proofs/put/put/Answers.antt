use Rattle.std.proofs.Common.{arith}
use Rattle.row_shelves.proofs.put.put.Goals as goal

pub take_new-requires-clause-some : goal.take_new-requires-clause-some
take_new-requires-clause-some c = omega (arith, c.requires.supply.enough, c.if-count-eq0.true, c.len-count.ensures)

pub returns-then-count-eq0-clause-supply : goal.returns-then-count-eq0-clause-supply
returns-then-count-eq0-clause-supply c = λ n h.
    let put = c.put_first.ensures in
    let took = c.take_new.ensures in
    record {
      enough = omega (arith, h.enough, put.none, put.count, took.count, c.if-count-eq0.true, c.len-count.ensures);
      space = omega (arith, h.space, put.count, put.capacity, took.count);
      back = λ some. omega (arith, took.count, took.capacity, c.args.new.now.ok.1);
    }

pub returns-clause-supply : goal.returns-clause-supply
returns-clause-supply c = λ n h.
    let put = c.put_on.ensures in
    record {
      enough = omega (arith, h.enough, put.cost, put.count, put.one, put.fewer, c.if-count-eq0.false, c.len-count.ensures);
      space = omega (arith, h.space, put.count, put.capacity);
      back = λ some. omega (arith, put.fewer, put.new_capacity, h.back (omega (arith, c.if-count-eq0.false, c.len-count.ensures)));
    }
