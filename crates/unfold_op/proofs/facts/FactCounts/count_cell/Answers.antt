use Rattle.std.proofs.Common.{rules, ◌≡◌, refl, Some, length, true, false}
use Rattle.std.specs.Prelude.{◌==◌}
use Rattle.flow_law.specs.Facts.{Fact}
use Rattle.unfold_op.specs.declared.facts.FactCounts.{FactCounts}
use Rattle.unfold_op.proofs.Counting.{few_keys, few_times, held_with, bears_own, stands_empty, stands_full}
use Rattle.unfold_op.proofs.facts.FactCounts.count_cell.Goals as goal

pub count_owned-requires : goal.count_owned-requires
count_owned-requires c =
    let r = c.requires in
    let f : Fact = record { label = r.0; key = c.args.key; cell = Some (c.args.column, c.args.value) } in
    few_keys c.args.self.now f r.1 r.2 c.args.key

pub returns-then-is_empty : goal.returns-then-is_empty
returns-then-is_empty c = λ label fs h.
    let empty : (length c.args.value == 0) ≡ true = search rules in
    let after : FactCounts = record { keys = c.count_owned.new.counts; columns = c.count_owned-then-is_empty.new.counts; cells = c.args.self.now.cells } in
    stands_empty c.args.self.now after label c.args.key fs c.in_ok-count_owned.ensures c.args.column c.args.value c.in_ok-count_owned-2.ensures empty refl h

pub count_copied-requires : goal.count_copied-requires
count_copied-requires c =
    let r = c.requires in
    let f : Fact = record { label = r.0; key = c.args.key; cell = Some (c.args.column, c.args.value) } in
    few_keys c.args.self.now f r.1 r.2 c.args.key

pub count_value-requires : goal.count_value-requires
count_value-requires c =
    let r = c.requires in
    let f : Fact = record { label = r.0; key = c.args.key; cell = Some (c.args.column, c.args.value) } in
    let full : (length c.args.value == 0) ≡ false = search rules in
    few_times c.args.self.now f r.1 r.2 (c.args.key, c.args.column) c.args.value (bears_own r.0 c.args.key c.args.column c.args.value full)

pub returns : goal.returns
returns c = λ label fs h.
    let f : Fact = record { label = label; key = c.args.key; cell = Some (c.args.column, c.args.value) } in
    let full : (length c.args.value == 0) ≡ false = search rules in
    let after : FactCounts = record { keys = c.count_copied.new.counts; columns = c.count_copied-2.new.counts; cells = c.count_value.new.cells } in
    stands_full c.args.self.now after label c.args.key fs c.in_ok-count_copied.ensures c.args.column c.args.value c.in_ok-count_copied-2.ensures full
    (held_with c.args.self.now f fs h (c.args.key, c.args.column) c.args.value (bears_own label c.args.key c.args.column c.args.value full) after c.in_ok-count_value.ensures) h
