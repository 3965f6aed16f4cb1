use Rattle.std.proofs.Common.{◌≡◌, ◌<◌, ◌+◌, ◌∷◌, ◌++◌, ◌∙◌, [], ℕ, List, take, length, get_or, arith, ap, sym, subst}
use Rattle.std.specs.List.{AllZip}
use Rattle.std.proofs.lemmas.List.{length_push, map-id}
use Rattle.std.proofs.lemmas.Iterator.Adapters.{YieldsList-from_vec}
use Rattle.std.proofs.lemmas.Iterator.Consumers.{YieldsList-turn, YieldsList-end}
use Rattle.schema_model.specs.Catalogue.{CatalogueValue}
use Rattle.schema_model.specs.Changes.{after}
use Rattle.operator_law.specs.declared.delta.Signed.{Signed}
use Rattle.schema_delta.specs.Flat.{MovesBetween}
use Rattle.schema_delta.specs.declared.spec.FlatSpec.{FlatSpec}
use Rattle.schema_delta.proofs.GroupLemmas.{one_behind, all_behind}
use Rattle.schema_delta.proofs.group.moved_on.Goals as goal

pub bounds-specs-len : goal.bounds-specs-len
bounds-specs-len g c =
    let gives = c.into_iter-delta-iterator.ensures.into_iter_gives in
    let all = YieldsList-from_vec {s = c.into_iter-delta-iterator.result} c.args.deltas.items gives.0 (gives.1 ∙ c.args.deltas.ok.0) in
    let turn = YieldsList-turn all c.loop-delta.yielded c.loop-delta.delta-iterator c.loop-delta.yielded_by c.next.result c.next.new.self c.in-Some.delta c.in-Some.is c.next.ensures.steps in
    omega (arith, turn.0, c.loop-delta.invariant.as_long, c.requires.each, c.len.ensures)

pub loop-delta-preserved : goal.loop-delta-preserved
loop-delta-preserved g c =
    let p : CatalogueValue = c.args.present.now.databases in
    let q : CatalogueValue = after p c.args.change.now in
    let specs : List FlatSpec = c.args.specs.now in
    let olds : List (List Signed) = c.loop-delta.yielded in
    let alls : List (List Signed) = c.loop-delta.all.items in
    let n = length olds in
    let gives = c.into_iter-delta-iterator.ensures.into_iter_gives in
    let items = YieldsList-from_vec {s = c.into_iter-delta-iterator.result} c.args.deltas.items gives.0 (gives.1 ∙ c.args.deltas.ok.0) in
    let turn = YieldsList-turn items c.loop-delta.yielded c.loop-delta.delta-iterator c.loop-delta.yielded_by c.next.result c.next.new.self c.in-Some.delta c.in-Some.is c.next.ensures.steps in
    let lt : n < length specs = omega (arith, turn.0, c.requires.each) in
    let spec : FlatSpec = c.index-specs-len.result in
    let place : c.len.result ≡ n = omega (arith, c.len.ensures, c.loop-delta.invariant.as_long) in
    let at : spec ≡ get_or specs n spec = c.index-specs-len.is ∙ ap (λ (k : ℕ). get_or specs k spec) place in
    let longer : length (olds ++ c.in-Some.delta ∷ []) ≡ n + 1 = length_push olds c.in-Some.delta in
    record {
      moved = λ k h.
          let before = subst (λ (j : ℕ). AllZip (MovesBetween k p) (take j specs) (olds ++ c.in-Some.delta ∷ [])) longer h in
          let more = one_behind p q specs olds alls n spec c.in-Some.delta c.in_ok-more.more c.in_ok-followed_by.field-0 c.loop-delta.invariant.moved lt at c.in_ok-followed_by.ensures c.in_ok-more.ensures.moved k before in
          let pushed = subst (λ (ds : List (List Signed)). AllZip (MovesBetween k q) (take (n + 1) specs) ds) (sym c.in_ok-push.ensures.items) more in
          subst (λ (j : ℕ). AllZip (MovesBetween k q) (take j specs) c.push.new.self.items) (sym longer) pushed;
      as_long = ap length c.in_ok-push.ensures.items ∙ length_push alls c.in_ok-followed_by.field-0 ∙ ap (λ (j : ℕ). j + 1) c.loop-delta.invariant.as_long ∙ sym longer;
      counted = c.in_ok-more.ensures.steps ∙ c.loop-delta.invariant.counted;
    }

pub returns-clause-moved : goal.returns-clause-moved
returns-clause-moved g c =
    let p : CatalogueValue = c.args.present.now.databases in
    let q : CatalogueValue = after p c.args.change.now in
    let specs : List FlatSpec = c.args.specs.now in
    let gives = c.into_iter-delta-iterator.ensures.into_iter_gives in
    let items = YieldsList-from_vec {s = c.into_iter-delta-iterator.result} c.args.deltas.items gives.0 (gives.1 ∙ c.args.deltas.ok.0) in
    let done = YieldsList-end items c.loop-delta.yielded c.loop-delta.delta-iterator c.loop-delta.yielded_by c.next.result c.next.new.self c.in-None.is c.next.ensures.steps in
    let whole : c.loop-delta.yielded ≡ c.args.deltas.items = sym (map-id c.loop-delta.yielded) ∙ done.0 in
    λ k h.
    all_behind p q specs c.loop-delta.yielded c.loop-delta.all.items c.loop-delta.invariant.moved (ap length whole ∙ c.requires.each) k
    (subst (λ (ds : List (List Signed)). AllZip (MovesBetween k p) specs ds) (sym whole) h)
