use Rattle.std.proofs.Common.{◌≡◌, ◌<◌, ◌-◌, ◌+◌, sym, subst, ap, ◌∙◌, [], arith, replicate}
use Rattle.std.specs.List.{AllByRecursion}
use Rattle.std.specs.Vec.{vec_len}
use Rattle.ss_text.specs.Ascending.{with_element}
use Rattle.flow_law.specs.Lines.{by_key}
use Rattle.row_shelves.specs.Stocks.{rows_of, Has}
use Rattle.row_shelves.specs.Shelves.{all_rows}
use Rattle.row_shelves.specs.Blanks.{IsNewRow, AreSupplied}
use Rattle.row_shelves.specs.Values.{rows_value}
use Rattle.row_shelves.proofs.ValueLemmas.{key_seen, seen_with}
use Rattle.row_shelves.proofs.StockLemmas.{all_with, last_of, but_last}
use Rattle.row_shelves.proofs.SupplyLemmas.{one_supplied}
use Rattle.row_shelves.proofs.rows.RowShelves.add_row.Goals as goal

pub put-requires-clause-absent : goal.put-requires-clause-absent
put-requires-clause-absent c = rw c.empty.ensures (sym (key_seen c.args.key (all_rows c.self.inside.shelves.items)) ∙ (rw (← c.self.view_is) at c.requires.absent))

pub put-requires-clause-supply : goal.put-requires-clause-supply
put-requires-clause-supply c =
    let some : 0 < vec_len c.self.inside.cells = omega (arith, c.in-Some.ensures.len) in
    one_supplied c.self.inside.shelves c.self.inside.spare (vec_len c.self.inside.cells) some (c.self.invariant.supply some)

pub invariant_of-self : goal.invariant_of-self
invariant_of-self c =
    let bound = c.self.inside.bound in
    let all = subst (AllByRecursion (IsNewRow bound)) c.in-Some.ensures.items c.self.invariant.cells in
    let is = last_of (IsNewRow bound) c.pop.new.self.items c.in-Some.cells all in
    let left = vec_len c.pop.new.self in
    let count : vec_len c.self.inside.cells ≡ left + 1 = omega (arith, c.in-Some.ensures.len) in
    record {
      shelves = c.put.ensures.shelves;
      rows = rw c.put.ensures.rows (all_with (Has bound) c.empty.result (all_rows c.self.inside.shelves.items) (rw c.empty.ensures is.room) c.self.invariant.rows);
      new = c.drop_unused.ensures.new;
      cells = but_last (IsNewRow bound) c.pop.new.self.items c.in-Some.cells all;
      supply = λ more.
          let before = subst (AreSupplied c.self.inside.shelves c.self.inside.spare) count (c.self.invariant.supply (omega (arith, count))) in
          subst (λ ns. AreSupplied c.put.new.shelves ns left) (sym (c.drop_unused.ensures.kept (omega (arith, c.len.ensures, more)))) (c.put.ensures.supply left before);
    }

pub returns : goal.returns
returns c =
    let rows = all_rows c.self.inside.shelves.items in
    let count : c.pop.new.self.len ≡ c.self.inside.cells.len - 1 = omega (arith, c.in-Some.ensures.len) in
    rw (← c.self.view_is, c.put.ensures.rows, seen_with c.empty.result rows, c.empty.ensures)
    (ap (λ n. rows_value (with_element by_key (c.args.key, replicate c.args.columns []) (rows_of rows)) n c.self.inside.bound) count)
