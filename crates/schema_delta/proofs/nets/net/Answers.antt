use Rattle.std.proofs.Common.{◌≡◌, ◌∙◌, List, true, not, sym, subst}
use Rattle.std.specs.List.{list_all}
use Rattle.operator_law.specs.declared.delta.Signed.{Signed}
use Rattle.schema_delta.proofs.Leftover.{ups_net, downs_net}
use Rattle.schema_delta.proofs.nets.net.Goals as goal

pub returns-then-all_come-clause-net : goal.returns-then-all_come-clause-net
returns-then-all_come-clause-net c =
    ups_net c.args.delta (subst (λ (ms : List Signed). list_all (λ (m : Signed). m.up) ms ≡ true) (c.deref.ensures.value ∙ c.delta.view_is) (sym c.all_come.ensures ∙ c.if-all_come.true))

pub returns-then-all_go-clause-net : goal.returns-then-all_go-clause-net
returns-then-all_go-clause-net c =
    downs_net c.args.delta (subst (λ (ms : List Signed). list_all (λ (m : Signed). not m.up) ms ≡ true) (c.deref-2.ensures.value ∙ c.delta.view_is) (sym c.all_go.ensures ∙ c.if-all_go.true))
