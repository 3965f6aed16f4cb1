use Rattle.std.proofs.Common.{◌≡◌, List, length, ap, sym, ◌∙◌, subst}
use Rattle.std.specs.List.{AllByRecursion}
use Rattle.std.proofs.lemmas.List.{length-map}
use Rattle.operator_law.specs.declared.delta.Signed.{Signed}
use Rattle.schema_delta.specs.Net.{SameNet, IsNet}
use Rattle.plan_translate.specs.Parts.{own_tests}
use Rattle.plan_translate.proofs.Each.{zip_long}
use Rattle.plan_translate.proofs.OwnMoves.{each_net, each_long}
use Rattle.plan_translate.proofs.own.own_moves.Goals as goal

pub returns-clause-net : goal.returns-clause-net
returns-clause-net c = subst (AllByRecursion IsNet) (sym c.in_ok-own.ensures) (each_net (own_tests c.args.tests.now) c.in_ok-nets.nets.items c.in_ok-nets.ensures.net)

pub returns-clause-each : goal.returns-clause-each
returns-clause-each c =
    let tests = c.args.tests.now in
    let nets : List (List Signed) = c.in_ok-nets.nets.items in
    let long : length (own_tests tests) ≡ length tests = length-map tests _ in
    let each : length nets ≡ length (own_tests tests) = zip_long SameNet c.args.deltas.items nets c.in_ok-nets.ensures.same ∙ c.requires ∙ sym long in
    ap length c.in_ok-own.ensures ∙ each_long (own_tests tests) nets each ∙ long
