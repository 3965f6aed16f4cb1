use Rattle.std.proofs.Common.{◌∷◌, ◌++◌, ◌∙◌, [], List, sym, ap, append_assoc, append-nil}
use Rattle.flow_law.specs.declared.line.TableLine.{TableLine}
use Rattle.view_stack.proofs.StackLemmas.{none_proposed, one_proposed}
use Rattle.view_stack.proofs.stack.+propose_all.Goals as goal

pub returns-in_default-clause-proposed : goal.returns-in_default-clause-proposed
returns-in_default-clause-proposed g t c =
    ([], sym (append-nil c.args.all.now.items), none_proposed g.A.Applies.state g.A.Applies.after_propose g.A.Applies.waits c.args.levels.now c.args.names.now c.args.changes.now c.in_default.ensures.cases)

pub returns-in-Ok-propose_all-clause-proposed : goal.returns-in-Ok-propose_all-clause-proposed
returns-in-Ok-propose_all-clause-proposed g t c =
    let state = g.A.Applies.state in
    let lines = c.in-Ok.lines in
    let took = c.in-Ok.ensures in
    let above = c.in-Ok-lifted_above.ensures in
    let rest = c.in-Ok-propose_all.ensures.proposed in
    let have = one_proposed state g.A.Applies.after_propose c.args.levels.now c.in-Some.rest.now c.propose_all.new.levels c.in-Some.first.now c.propose.new.self c.args.names.now c.behind_first.result.now c.args.changes.now c.deref.result.now lines rest.0 _ _
    c.in-Some.ensures.cases.0 took.proposed took.same c.behind_first.ensures (c.deref.ensures.value ∙ above.changes) c.requires.stacked took.proposes (took.accepted, took.script) (above.lifts c.args.changes.now) rest.2 in
    (lines ∷ rest.0, rest.1 ∙ ap (λ (xs : List (List TableLine)). xs ++ rest.0) c.push_reserved-2.ensures.items ∙ append_assoc c.args.all.now.items (lines ∷ []) rest.0, have)
