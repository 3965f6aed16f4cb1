use Rattle.std.proofs.Common.{sym, ap, ◌∙◌}
use Rattle.row_links.proofs.Changed.{first_like, none_like}
use Rattle.row_links.proofs.linked.Linked.take_first.Goals as goal
use Rattle.row_links.specs.Chained.{Placed}

pub take-requires : goal.take-requires
take-requires c = (first_like c.args.row.now c.args.self.now.live c.in-Some.place (sym c.in-Some.is ∙ c.find.ensures.found)).there

pub returns-in-Some-clause-found : goal.returns-in-Some-clause-found
returns-in-Some-clause-found c = sym (first_like c.args.row.now c.args.self.now.live c.in-Some.place (sym c.in-Some.is ∙ c.find.ensures.found)).any

pub returns-in-Some-clause-taken : goal.returns-in-Some-clause-taken
returns-in-Some-clause-taken c =
    let v = c.args.self.now in
    c.take.ensures ∙ ap (λ (es : Placed). record { keys = v.keys; live = es; waiting = v.waiting }) ((first_like c.args.row.now v.live c.in-Some.place (sym c.in-Some.is ∙ c.find.ensures.found)).taken c.find.ensures.once)

pub returns-in-None-clause-found : goal.returns-in-None-clause-found
returns-in-None-clause-found c = sym (none_like c.args.row.now c.args.self.now.live (sym c.in-None.is ∙ c.find.ensures.found)).any

pub returns-in-None-clause-taken : goal.returns-in-None-clause-taken
returns-in-None-clause-taken c =
    let v = c.args.self.now in
    ap (λ (es : Placed). record { keys = v.keys; live = es; waiting = v.waiting }) (sym (none_like c.args.row.now v.live (sym c.in-None.is ∙ c.find.ensures.found)).same)
