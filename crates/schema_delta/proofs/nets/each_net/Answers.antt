use Rattle.std.proofs.Common.{◌≡◌, List, [], ◌∷◌, ◌++◌, subst, sym}
use Rattle.std.specs.List.{AllZip, AllByRecursion}
use Rattle.std.proofs.lemmas.Slice.Zip.{all_zipped_more}
use Rattle.operator_law.specs.declared.delta.Signed.{Signed}
use Rattle.schema_delta.specs.Net.{SameNet, IsNet}
use Rattle.ss_text.proofs.PlaceLemmas.{each_last}
use Rattle.schema_delta.proofs.nets.each_net.Goals as goal

pub loop-delta-preserved : goal.loop-delta-preserved
loop-delta-preserved c =
    let olds : List (List Signed) = c.loop-delta.yielded in
    let nets : List (List Signed) = c.loop-delta.nets.items in
    let delta : List Signed = c.in-Some.delta in
    let net : List Signed = c.in_ok-net.field-0 in
    let pushed : nets ++ net ∷ [] ≡ c.push.new.self.items = sym {A = List (List Signed)} c.in_ok-push.ensures.items in
    record {
      same = subst (AllZip SameNet (olds ++ delta ∷ [])) pushed (all_zipped_more SameNet olds nets delta net c.loop-delta.invariant.same c.in_ok-net.ensures.same);
      net = subst (AllByRecursion IsNet) pushed (each_last IsNet nets net c.loop-delta.invariant.net c.in_ok-net.ensures.net);
    }
