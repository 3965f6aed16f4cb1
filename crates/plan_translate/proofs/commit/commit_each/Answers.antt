use Rattle.std.proofs.Common.{◌≡◌, ◌+◌, ◌<◌, ◌++◌, ◌∷◌, [], ◌∙◌, List, length, get_or, set, Some, refl, ap, sym, subst, arith, append-nil, append_assoc}
use Rattle.std.proofs.lemmas.List.{length_push}
use Rattle.join_delta.specs.Joins.{JoinValue}
use Rattle.plan_translate.specs.Sides.{Moved}
use Rattle.plan_translate.proofs.Each.{Pair, MovedFrom, none_moved, one_moved, all_moved, waits_at, behind_is, front_within, same_long}
use Rattle.plan_translate.proofs.commit.commit_each.Goals as goal

pub loop-last-init : goal.loop-last-init
loop-last-init c =
    let ready : List Pair = c.args.ready.items in
    let long = same_long c.args.joins.now.items ready c.requires in
    record {
      left = ([], append-nil ready);
      moved = none_moved c.args.joins.now.items ready (length ready) (omega (arith, long));
    }

pub index_mut-requires : goal.index_mut-requires
index_mut-requires c =
    let left : List Pair = c.pop.new.self.items in
    let rest = c.loop-last.invariant.left in
    let all : (left ++ c.in-Some.last ∷ []) ++ rest.0 ≡ c.args.ready.items = ap (λ (l : List Pair). l ++ rest.0) (sym c.in-Some.ensures.items) ∙ rest.1 in
    omega (arith, c.len.ensures, front_within left rest.0 c.args.ready.items c.in-Some.last all, same_long c.args.joins.now.items c.args.ready.items c.requires, c.loop-last.invariant.moved.long)

pub commit-requires : goal.commit-requires
commit-requires c =
    let xs : List JoinValue = c.args.joins.now.items in
    let ready : List Pair = c.args.ready.items in
    let left : List Pair = c.pop.new.self.items in
    let last : Pair = c.in-Some.last in
    let old : JoinValue = c.index_mut.result.now in
    let n = length left in
    let rest = c.loop-last.invariant.left in
    let all : (left ++ last ∷ []) ++ rest.0 ≡ ready = ap (λ (l : List Pair). l ++ rest.0) (sym c.in-Some.ensures.items) ∙ rest.1 in
    let within : n < length xs = omega (arith, front_within left rest.0 ready last all, same_long xs ready c.requires) in
    let place : c.len.result ≡ n = omega (arith, c.len.ensures) in
    let at : old ≡ get_or c.loop-last.joins.items n old = c.index_mut.ensures.value ∙ ap (λ i. get_or c.loop-last.joins.items i old) place in
    let was : length c.loop-last.left.items ≡ n + 1 = ap length c.in-Some.ensures.items ∙ length_push left last in
    let same : get_or c.loop-last.joins.items n old ≡ get_or xs n old = c.loop-last.invariant.moved.same n old (omega (arith, was)) in
    let waits : (get_or xs n old).waiting ≡ Some (get_or ready n last) = waits_at xs ready n old last c.requires within in
    ap (λ (j : JoinValue). j.waiting) (at ∙ same) ∙ waits ∙ ap (λ (p : Pair). Some p) (sym (behind_is left rest.0 ready last all))

pub loop-last-preserved : goal.loop-last-preserved
loop-last-preserved c =
    let xs : List JoinValue = c.args.joins.now.items in
    let ys : List JoinValue = c.loop-last.joins.items in
    let ready : List Pair = c.args.ready.items in
    let left : List Pair = c.pop.new.self.items in
    let last : Pair = c.in-Some.last in
    let old : JoinValue = c.index_mut.result.now in
    let new : JoinValue = c.commit.new.self in
    let n = length left in
    let rest = c.loop-last.invariant.left in
    let all : (left ++ last ∷ []) ++ rest.0 ≡ ready = ap (λ (l : List Pair). l ++ rest.0) (sym c.in-Some.ensures.items) ∙ rest.1 in
    let few : n < length ready = front_within left rest.0 ready last all in
    let within : n < length xs = omega (arith, few, same_long xs ready c.requires) in
    let place : c.len.result ≡ n = omega (arith, c.len.ensures) in
    let at : old ≡ get_or ys n old = c.index_mut.ensures.value ∙ ap (λ i. get_or ys i old) place in
    let was : length c.loop-last.left.items ≡ n + 1 = ap length c.in-Some.ensures.items ∙ length_push left last in
    let before : MovedFrom xs ready ys (n + 1) = subst (λ i. MovedFrom xs ready ys i) was c.loop-last.invariant.moved in
    let one : Moved old last new = record {
      keys = record { left = sym c.commit.ensures.alike.0; right = sym c.commit.ensures.alike.1 };
      sides = λ l r ml mr. c.commit.ensures.moved (old.left, old.right) (l, r) (λ f. refl, λ f. refl) (ml, mr) tt;
    } in
    record {
      left = (last ∷ rest.0, sym (append_assoc left (last ∷ []) rest.0) ∙ all);
      moved = subst (λ i. MovedFrom xs ready (set ys i new) n) (sym place) (one_moved xs ready ys n old new last before within few at (behind_is left rest.0 ready last all) one);
    }

pub returns : goal.returns
returns c =
    let xs : List JoinValue = c.args.joins.now.items in
    let ready : List Pair = c.args.ready.items in
    let none : length c.loop-last.left.items ≡ 0 = omega (arith, c.in_default.ensures.cases.0) in
    all_moved xs ready c.loop-last.joins.items (sym (same_long xs ready c.requires)) (subst (λ i. MovedFrom xs ready c.loop-last.joins.items i) none c.loop-last.invariant.moved)
