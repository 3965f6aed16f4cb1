use Rattle.std.proofs.Common.{◌∙◌, ap, sym, arith, length-drop}
use Rattle.std.proofs.lemmas.List.{drop-drop}
use Rattle.flow_law.specs.Neighbours.{first_clash}
use Rattle.flow_law.proofs.ConflictLemmas.{first_two, no_two, conflict_first}
use Rattle.fact_tables.proofs.refused.conflict.Goals as goal

pub returns-in-Some : goal.returns-in-Some
returns-in-Some t c =
    let fs = c.args.facts.now in
    let left = first_two c.facts_from.result.now c.fact-item.result c.next-item.result c.in-len2-up.len_at_least c.fact-item.is c.next-item.is in
    let found = sym c.in_ok-clash.ensures ∙ c.in-Some.is in
    sym (rw (c.facts_from.ensures, found, c.loop-alloc.invariant.clash) at left) ∙ conflict_first fs c.requires

pub loop-alloc-preserved : goal.loop-alloc-preserved
loop-alloc-preserved t c =
    let fs = c.args.facts.now in
    let place = c.loop-alloc.place in
    let left = first_two c.facts_from.result.now c.fact-item.result c.next-item.result c.in-len2-up.len_at_least c.fact-item.is c.next-item.is in
    let none = sym c.in_ok-clash.ensures ∙ c.in_default-2.is in
    let two = rw c.facts_from.ensures at c.in-len2-up.len_at_least in
    record {
      clash = ap first_clash (sym (drop-drop 1 place fs)) ∙ sym (rw (c.facts_from.ensures, none) at left) ∙ c.loop-alloc.invariant.clash;
      within = omega (arith, two, length-drop place fs);
    }

pub returns : goal.returns
returns t c =
    let fs = c.args.facts.now in
    sym (no_two c.facts_from.result.now c.in_default.len_below) ∙ ap first_clash c.facts_from.ensures ∙ c.loop-alloc.invariant.clash ∙ conflict_first fs c.requires
