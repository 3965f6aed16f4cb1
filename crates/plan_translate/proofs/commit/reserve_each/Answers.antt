use Rattle.std.proofs.Common.{◌≡◌, ◌<◌, ◌++◌, ◌∷◌, [], ◌∙◌, List, map, take, drop, length, get_or, set, Some, refl, ap, sym, subst, arith, length-set, length-take-le}
use Rattle.std.specs.List.{AllZip}
use Rattle.std.proofs.lemmas.List.{take_all}
use Rattle.join_delta.specs.Joins.{JoinValue}
use Rattle.plan_translate.specs.Sides.{LikeJoin, CanMove}
use Rattle.plan_translate.proofs.Each.{Pair, like_selves, like_set, can_at, zip_long, one_more, waits_more, written}
use Rattle.plan_translate.proofs.commit.reserve_each.Goals as goal

pub returns-in_err-ready-clause-alike : goal.returns-in_err-ready-clause-alike
returns-in_err-ready-clause-alike c = like_selves c.args.joins.now.items

pub loop-join-init : goal.loop-join-init
loop-join-init c = record {
  alike = subst (AllZip LikeJoin c.args.joins.now.items) (sym c.deref_mut-join-items.ensures.value) (like_selves c.args.joins.now.items);
  ready = c.in_ok-ready.ensures.items;
  waits = refl;
}

pub bounds-sides-len : goal.bounds-sides-len
bounds-sides-len c =
    let xs : List JoinValue = c.args.joins.now.items in
    let ys : List JoinValue = c.loop-join.join-items in
    let sides : List Pair = c.args.sides.now in
    let i = c.loop-join.join-index in
    let join : JoinValue = c.join-item.result in
    let long = zip_long CanMove xs sides c.requires in
    let same = zip_long LikeJoin xs ys c.loop-join.invariant.alike in
    let lt : i < length ys = omega arith in
    let few : i < length sides = omega (arith, lt, long, same) in
    let place : c.len.result ≡ i = omega (arith, c.len.ensures, ap length c.loop-join.invariant.ready, length-take-le i sides (omega (arith, few))) in
    omega (arith, place, few)

pub reserve-requires-clause-fits : goal.reserve-requires-clause-fits
reserve-requires-clause-fits c =
    let xs : List JoinValue = c.args.joins.now.items in
    let ys : List JoinValue = c.loop-join.join-items in
    let sides : List Pair = c.args.sides.now in
    let i = c.loop-join.join-index in
    let join : JoinValue = c.join-item.result in
    let long = zip_long CanMove xs sides c.requires in
    let same = zip_long LikeJoin xs ys c.loop-join.invariant.alike in
    let lt : i < length ys = omega arith in
    let few : i < length sides = omega (arith, lt, long, same) in
    let place : c.len.result ≡ i = omega (arith, c.len.ensures, ap length c.loop-join.invariant.ready, length-take-le i sides (omega (arith, few))) in
    let change : Pair = c.index-sides-len.result in
    let is : change ≡ get_or sides i change = c.index-sides-len.is ∙ ap (λ k. get_or sides k change) place in
    let can : CanMove join change = can_at xs ys sides i join change c.requires c.loop-join.invariant.alike lt c.join-item.is is in
    let fits : CanMove (get_or ys i join) change = subst (λ (j : JoinValue). CanMove j change) c.join-item.is can in
    (((get_or ys i join).left, (get_or ys i join).right), (fits.left_rows, fits.right_rows), (λ f. refl, λ f. refl), (fits.left, fits.right), tt)

pub returns-in_err-reserve-clause-alike : goal.returns-in_err-reserve-clause-alike
returns-in_err-reserve-clause-alike c =
    let xs : List JoinValue = c.args.joins.now.items in
    let ys : List JoinValue = c.loop-join.join-items in
    let i = c.loop-join.join-index in
    let join : JoinValue = c.join-item.result in
    let same = zip_long LikeJoin xs ys c.loop-join.invariant.alike in
    let lt : i < length ys = omega arith in
    let new : JoinValue = c.reserve.new.self in
    let here : JoinValue = get_or ys i join in
    let kept = c.reserve.ensures.keeps (here.left, here.right) (λ f. refl, λ f. refl) in
    let alike : LikeJoin here new = record { keys = record { left = sym c.reserve.ensures.alike.0; right = sym c.reserve.ensures.alike.1 }; left = kept.0; right = kept.1 } in
    let all : AllZip LikeJoin xs (set ys i new) = like_set xs ys i new join c.loop-join.invariant.alike lt c.join-item.is (subst (λ (j : JoinValue). LikeJoin j new) (sym c.join-item.is) alike) in
    let whole : take c.args.joins.now.len (set ys i new ++ drop (length (set ys i new)) xs) ≡ set ys i new = written c.args.joins.now.len (set ys i new) xs (omega (arith, length-set ys i new, same)) in
    subst (AllZip LikeJoin xs) (sym whole) all

pub returns-in_err-push-clause-alike : goal.returns-in_err-push-clause-alike
returns-in_err-push-clause-alike c =
    let xs : List JoinValue = c.args.joins.now.items in
    let ys : List JoinValue = c.loop-join.join-items in
    let i = c.loop-join.join-index in
    let join : JoinValue = c.join-item.result in
    let same = zip_long LikeJoin xs ys c.loop-join.invariant.alike in
    let lt : i < length ys = omega arith in
    let new : JoinValue = c.reserve.new.self in
    let here : JoinValue = get_or ys i join in
    let kept = c.reserve.ensures.keeps (here.left, here.right) (λ f. refl, λ f. refl) in
    let alike : LikeJoin here new = record { keys = record { left = sym c.reserve.ensures.alike.0; right = sym c.reserve.ensures.alike.1 }; left = kept.0; right = kept.1 } in
    let all : AllZip LikeJoin xs (set ys i new) = like_set xs ys i new join c.loop-join.invariant.alike lt c.join-item.is (subst (λ (j : JoinValue). LikeJoin j new) (sym c.join-item.is) alike) in
    let whole : take c.args.joins.now.len (set ys i new ++ drop (length (set ys i new)) xs) ≡ set ys i new = written c.args.joins.now.len (set ys i new) xs (omega (arith, length-set ys i new, same)) in
    subst (AllZip LikeJoin xs) (sym whole) all

pub loop-join-preserved : goal.loop-join-preserved
loop-join-preserved c =
    let xs : List JoinValue = c.args.joins.now.items in
    let ys : List JoinValue = c.loop-join.join-items in
    let sides : List Pair = c.args.sides.now in
    let i = c.loop-join.join-index in
    let join : JoinValue = c.join-item.result in
    let long = zip_long CanMove xs sides c.requires in
    let same = zip_long LikeJoin xs ys c.loop-join.invariant.alike in
    let lt : i < length ys = omega arith in
    let few : i < length sides = omega (arith, lt, long, same) in
    let place : c.len.result ≡ i = omega (arith, c.len.ensures, ap length c.loop-join.invariant.ready, length-take-le i sides (omega (arith, few))) in
    let new : JoinValue = c.reserve.new.self in
    let here : JoinValue = get_or ys i join in
    let kept = c.reserve.ensures.keeps (here.left, here.right) (λ f. refl, λ f. refl) in
    let alike : LikeJoin here new = record { keys = record { left = sym c.reserve.ensures.alike.0; right = sym c.reserve.ensures.alike.1 }; left = kept.0; right = kept.1 } in
    let all : AllZip LikeJoin xs (set ys i new) = like_set xs ys i new join c.loop-join.invariant.alike lt c.join-item.is (subst (λ (j : JoinValue). LikeJoin j new) (sym c.join-item.is) alike) in
    let change : Pair = c.index-sides-len.result in
    let is : change ≡ get_or sides i change = c.index-sides-len.is ∙ ap (λ k. get_or sides k change) place in
    record {
      alike = all;
      ready = c.in_ok-push.ensures.items ∙ ap (λ (l : List Pair). l ++ c.in_ok-reserve.field-0 ∷ []) c.loop-join.invariant.ready ∙ ap (λ (p : Pair). take i sides ++ p ∷ []) c.in_ok-reserve.ensures.ready ∙ sym (one_more sides i change few is);
      waits = waits_more ys sides i new change lt few is c.in_ok-reserve.ensures.waits c.loop-join.invariant.waits;
    }

pub returns-clause-ready : goal.returns-clause-ready
returns-clause-ready c =
    let xs : List JoinValue = c.args.joins.now.items in
    let ys : List JoinValue = c.loop-join.join-items in
    let sides : List Pair = c.args.sides.now in
    let long = zip_long CanMove xs sides c.requires in
    let same = zip_long LikeJoin xs ys c.loop-join.invariant.alike in
    c.loop-join.invariant.ready ∙ take_all c.loop-join.join-index sides (omega (arith, long, same))

pub returns-clause-waits : goal.returns-clause-waits
returns-clause-waits c =
    let xs : List JoinValue = c.args.joins.now.items in
    let ys : List JoinValue = c.loop-join.join-items in
    let sides : List Pair = c.args.sides.now in
    let i = c.loop-join.join-index in
    let long = zip_long CanMove xs sides c.requires in
    let same = zip_long LikeJoin xs ys c.loop-join.invariant.alike in
    let whole : take c.args.joins.now.len (ys ++ drop (length ys) xs) ≡ ys = written c.args.joins.now.len ys xs (omega (arith, same)) in
    ap (map (λ (j : JoinValue). j.waiting)) (whole ∙ sym (take_all i ys (omega arith)))
    ∙ c.loop-join.invariant.waits
    ∙ ap (map Some) (take_all i sides (omega (arith, long, same)))

pub returns-clause-alike : goal.returns-clause-alike
returns-clause-alike c =
    let xs : List JoinValue = c.args.joins.now.items in
    let ys : List JoinValue = c.loop-join.join-items in
    let same = zip_long LikeJoin xs ys c.loop-join.invariant.alike in
    let whole : take c.args.joins.now.len (ys ++ drop (length ys) xs) ≡ ys = written c.args.joins.now.len ys xs (omega (arith, same)) in
    subst (AllZip LikeJoin xs) (sym whole) c.loop-join.invariant.alike
