use Rattle.std.proofs.Common.{◌<◌, ◌+◌, length, arith, sym, subst, refl}
use Rattle.schema_model.specs.Catalogue.{CatalogueValue}
use Rattle.change_draft.proofs.DraftLemmas.{IsLeft, can_make, one_made, all_made}
use Rattle.change_draft.proofs.draft.make_all.Goals as goal

pub loop-change-init : goal.loop-change-init
loop-change-init c = record { after_them = refl; accepted = c.requires.accepted; well_formed = c.requires.well_formed }

pub make-requires : goal.make-requires
make-requires c =
    let more : c.loop-change.change-index < length c.args.changes.now = omega arith in
    let can = can_make c.args.catalogue.now.databases c.args.changes.now c.loop-change.catalogue.databases c.loop-change.change-index c.loop-change.invariant c.change-item.result more c.change-item.is in
    record { well_formed = can.1; accepted = can.0 }

pub loop-change-preserved : goal.loop-change-preserved
loop-change-preserved c =
    let more : c.loop-change.change-index < length c.args.changes.now = omega arith in
    subst (λ (k : CatalogueValue). IsLeft c.args.catalogue.now.databases c.args.changes.now k (c.loop-change.change-index + 1)) (sym c.in_ok-make.ensures)
    (one_made c.args.catalogue.now.databases c.args.changes.now c.loop-change.catalogue.databases c.loop-change.change-index c.loop-change.invariant c.change-item.result more c.change-item.is)

pub returns : goal.returns
returns c = all_made c.args.catalogue.now.databases c.args.changes.now c.loop-change.catalogue.databases c.loop-change.change-index c.loop-change.invariant (omega arith)
