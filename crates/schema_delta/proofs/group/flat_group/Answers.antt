use Rattle.std.proofs.Common.{◌≡◌, ◌<◌, ◌≤◌, ◌+◌, ◌∙◌, List, length, arith, ap, sym, subst, refl}
use Rattle.std.specs.List.{AllZip}
use Rattle.std.proofs.lemmas.Slice.Zip.{AllZip-long}
use Rattle.schema_model.specs.Catalogue.{CatalogueValue}
use Rattle.schema_model.specs.States.{CatalogueState}
use Rattle.operator_law.specs.declared.delta.Signed.{Signed}
use Rattle.schema_delta.specs.Flat.{MovesBetween}
use Rattle.schema_delta.proofs.GroupLemmas.{IsLeft, all_stay, can_make, one_made, all_made, flat_nets}
use Rattle.schema_delta.proofs.group.flat_group.Goals as goal

pub loop-change-init : goal.loop-change-init
loop-change-init g c =
    let base : CatalogueValue = c.args.catalogue.now.databases in
    let same : base ≡ c.in_ok-present.present.databases = sym (ap (λ (k : CatalogueState). k.databases) c.in_ok-present.ensures) in
    let none = subst (λ (ds : List (List Signed)). AllZip (MovesBetween base base) c.args.specs.now ds) (sym c.in_ok-deltas.ensures) (all_stay base c.args.specs.now) in
    let all : IsLeft base c.args.changes.now base 0 = record { after_them = refl; accepted = c.requires.accepted; well_formed = c.requires.well_formed } in
    record {
      moved = subst (λ (k : CatalogueValue). AllZip (MovesBetween base k) c.args.specs.now c.in_ok-deltas.deltas.items) same none;
      left = subst (λ (k : CatalogueValue). IsLeft base c.args.changes.now k 0) same all;
      counted = refl;
    }

pub moved_on-requires-clause-accepted : goal.moved_on-requires-clause-accepted
moved_on-requires-clause-accepted g c =
    let more : c.loop-change.change-index < length c.args.changes.now = omega arith in
    (can_make c.args.catalogue.now.databases c.args.changes.now c.loop-change.present.databases c.loop-change.change-index c.loop-change.invariant.left c.change-item.result more c.change-item.is).0

pub moved_on-requires-clause-each : goal.moved_on-requires-clause-each
moved_on-requires-clause-each g c = AllZip-long (MovesBetween c.args.catalogue.now.databases c.loop-change.present.databases) c.args.specs.now c.loop-change.deltas.items c.loop-change.invariant.moved

pub make-requires : goal.make-requires
make-requires g c =
    let more : c.loop-change.change-index < length c.args.changes.now = omega arith in
    let can = can_make c.args.catalogue.now.databases c.args.changes.now c.loop-change.present.databases c.loop-change.change-index c.loop-change.invariant.left c.change-item.result more c.change-item.is in
    record { well_formed = can.1; accepted = can.0 }

pub loop-change-preserved : goal.loop-change-preserved
loop-change-preserved g c =
    let base : CatalogueValue = c.args.catalogue.now.databases in
    let more : c.loop-change.change-index < length c.args.changes.now = omega arith in
    let made = sym c.in_ok-make.ensures in
    let moved = subst (λ (k : CatalogueValue). AllZip (MovesBetween base k) c.args.specs.now c.in_ok-all.all.items) made (c.in_ok-all.ensures.moved base c.loop-change.invariant.moved) in
    record {
      moved = flat_nets base _ c.args.specs.now c.in_ok-all.all.items c.in_ok-deltas-2.deltas.items moved c.in_ok-deltas-2.ensures;
      left = subst (λ (k : CatalogueValue). IsLeft base c.args.changes.now k (c.loop-change.change-index + 1)) made
          (one_made base c.args.changes.now c.loop-change.present.databases c.loop-change.change-index c.loop-change.invariant.left c.change-item.result more c.change-item.is);
      counted = c.in_ok-all.ensures.steps ∙ c.loop-change.invariant.counted;
    }

pub returns-clause-moved : goal.returns-clause-moved
returns-clause-moved g c =
    let done : length c.args.changes.now ≤ c.loop-change.change-index = omega arith in
    let all = all_made c.args.catalogue.now.databases c.args.changes.now c.loop-change.present.databases c.loop-change.change-index c.loop-change.invariant.left done in
    subst (λ (k : CatalogueValue). AllZip (MovesBetween c.args.catalogue.now.databases k) c.args.specs.now c.loop-change.deltas.items) all c.loop-change.invariant.moved
