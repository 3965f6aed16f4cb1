use Rattle.std.proofs.Common.{◌≡◌, ◌∙◌, ap, map, arith}
use Rattle.std.proofs.lemmas.List.{take_all}
use Rattle.kept_tables.specs.Slots.{full_slot}
use Rattle.kept_tables.proofs.OpeningLemmas.{tables_full, slots_full}
use Rattle.kept_tables.proofs.opening.slots_of.Goals as goal

pub returns-clause-order : goal.returns-clause-order
returns-clause-order t c =
    let tables = c.args.tables.now in
    let all : c.loop-facts.slots.items ≡ map full_slot tables = c.loop-facts.invariant ∙ ap (map full_slot) (take_all c.loop-facts.facts-index tables (omega arith)) in
    rw all (slots_full tables c.requires)

pub returns-clause-tables : goal.returns-clause-tables
returns-clause-tables t c =
    let tables = c.args.tables.now in
    let all : c.loop-facts.slots.items ≡ map full_slot tables = c.loop-facts.invariant ∙ ap (map full_slot) (take_all c.loop-facts.facts-index tables (omega arith)) in
    rw all (tables_full tables)
