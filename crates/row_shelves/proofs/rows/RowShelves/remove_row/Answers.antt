use Rattle.std.proofs.Common.{◌≡◌, sym, ◌∙◌, refl, arith, length}
use Rattle.std.specs.Prelude.{not, option_to_list}
use Rattle.std.specs.Vec.{vec_len}
use Rattle.ss_text.specs.Texts.{row_eq}
use Rattle.row_shelves.specs.Stocks.{Stock, Has}
use Rattle.row_shelves.specs.Shelves.{all_rows}
use Rattle.row_shelves.proofs.ValueLemmas.{key_seen, seen_without}
use Rattle.row_shelves.proofs.StockLemmas.{all_filtered}
use Rattle.row_shelves.proofs.SupplyLemmas.{taken_supplied}
use Rattle.row_shelves.proofs.rows.RowShelves.remove_row.Goals as goal

pub take_key-emptied-requires-clause-there : goal.take_key-emptied-requires-clause-there
take_key-emptied-requires-clause-there c = sym (key_seen c.args.key.now (all_rows c.self.inside.shelves.items)) ∙ (rw (← c.self.view_is) at c.requires)

pub take_back-requires-clause-room : goal.take_back-requires-clause-room
take_back-requires-clause-room c = λ coming some. (c.self.invariant.supply (omega (arith, c.len.ensures, coming))).back (omega (arith, c.take_key-emptied.ensures.count, some))

pub invariant_of-self : goal.invariant_of-self
invariant_of-self c = record {
  shelves = c.take_key-emptied.ensures.shelves;
  rows = rw c.take_key-emptied.ensures.rows (all_filtered (Has c.self.inside.bound) (λ (r : Stock). not (row_eq c.args.key.now r.key)) (all_rows c.self.inside.shelves.items) c.self.invariant.rows);
  new = c.take_back.ensures.new;
  cells = c.self.invariant.cells;
  supply = λ some.
      let took = c.take_key-emptied.ensures in
      let ss = c.take_key-emptied.new.shelves in
      let seen : length c.deref.result.now ≡ vec_len ss = omega (arith, c.deref.ensures.len) in
      taken_supplied ss c.self.inside.shelves c.take_back.new.new c.self.inside.spare (vec_len c.self.inside.cells) (length (option_to_list c.take_key-emptied.result))
      took.surplus (omega (arith, took.count)) (λ none there. omega (arith, took.count, none, there)) took.capacity
      (λ none. c.take_back.ensures.waits (omega (arith, c.len.ensures, some)) (omega (arith, seen, none))) (λ there. c.take_back.ensures.same (omega (arith, seen, there))) c.take_back.ensures.capacity (c.self.invariant.supply some);
}

pub returns : goal.returns
returns c = rw (← c.self.view_is, c.take_key-emptied.ensures.rows, seen_without c.args.key.now (all_rows c.self.inside.shelves.items)) refl
