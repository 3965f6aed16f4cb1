use Rattle.std.proofs.Common.{◌≡◌, refl, arith, ap, length}
use Rattle.std.specs.Prelude.{option_to_list}
use Rattle.std.specs.Vec.{vec_len}
use Rattle.row_shelves.specs.Blanks.{surplus}
use Rattle.row_shelves.proofs.SameLemmas.{none_shelved}
use Rattle.row_shelves.proofs.SupplyLemmas.{taken_supplied}
use Rattle.row_shelves.proofs.rows.RowShelves.clear.Goals as goal

pub take_back-requires-clause-room : goal.take_back-requires-clause-room
take_back-requires-clause-room c = λ coming some. (c.self.invariant.supply (omega (arith, c.len.ensures, coming))).back (omega (arith, c.clear-emptied.ensures.count, some))

pub invariant_of-self : goal.invariant_of-self
invariant_of-self c = record {
  shelves = rw c.clear-emptied.ensures.none none_shelved;
  rows = rw c.clear-emptied.ensures.none tt;
  new = c.take_back.ensures.new;
  cells = c.self.invariant.cells;
  supply = λ some.
      let took = c.clear-emptied.ensures in
      let ss = c.clear-emptied.new.shelves in
      let zero : vec_len ss ≡ 0 = omega (arith, ss.ok.0, ap length took.none) in
      let seen : length c.deref.result.now ≡ vec_len ss = omega (arith, c.deref.ensures.len) in
      let sums : surplus ss.items ≡ 0 = rw took.none refl in
      taken_supplied ss c.self.inside.shelves c.take_back.new.new c.self.inside.spare (vec_len c.self.inside.cells) (length (option_to_list c.clear-emptied.result))
      (omega (arith, sums)) (omega (arith, zero, took.count)) (λ none there. took.some there) took.capacity
      (λ none. c.take_back.ensures.waits (omega (arith, c.len.ensures, some)) (omega (arith, seen, none))) (λ there. absurd (omega (arith, zero, there))) c.take_back.ensures.capacity (c.self.invariant.supply some);
}

pub returns : goal.returns
returns c = rw (← c.self.view_is, c.clear-emptied.ensures.none) refl
