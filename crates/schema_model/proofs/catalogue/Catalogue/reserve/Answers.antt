use Rattle.std.proofs.Common.{◌≡◌, ◌∙◌, sym, subst}
use Rattle.schema_model.specs.Catalogue.{CatalogueValue, row_count}
use Rattle.schema_model.specs.Changes.{after}
use Rattle.schema_model.specs.Sound.{IsCounted}
use Rattle.schema_model.proofs.SoundAfter.{sound_after}
use Rattle.schema_model.proofs.CountAfter.{count_after}
use Rattle.schema_model.specs.States.{plain_databases}
use Rattle.schema_model.proofs.catalogue.Catalogue.reserve.Goals as goal

pub invariant_of-self-2 : goal.invariant_of-self-2
invariant_of-self-2 c =
    let asked = rw (← c.self.view_is) at c.requires in
    let old = plain_databases c.self.inside.databases.items in
    let same = c.in_ok-edit.ensures.same in
    let sound = sound_after old c.args.change.now c.self.invariant.0.sound asked.well_formed asked.accepted in
    let counted : c.rows_after-rows.result ≡ row_count (after old c.args.change.now) = rw (← c.self.view_is) at c.rows_after-rows.ensures ∙ sym (count_after old c.args.change.now c.self.invariant.0.sound asked.accepted) in (
      subst (λ (ds : CatalogueValue). IsCounted ds c.self.inside.rows) (sym same) c.self.invariant.0,
      record {
        makes = rw c.of.ensures c.in_ok-edit.ensures.makes;
        counted = rw c.of.ensures (subst (λ (ds : CatalogueValue). IsCounted (after ds c.args.change.now) c.rows_after-rows.result) (sym same) (record { sound = sound; count = counted }));
      },
      tt,
    )
