use Rattle.std.proofs.Common.{◌∙◌, sym, ap, subst, map, List}
use Rattle.schema_model.specs.Catalogue.{RelationValue, database_value}
use Rattle.schema_model.specs.Edits.{waiting_left, own_left}
use Rattle.schema_model.specs.Sound.{IsDatabase}
use Rattle.schema_model.specs.States.{RelationState, plain_relation}
use Rattle.schema_model.proofs.Seen.{inserted_seen, removed_seen, put_seen}
use Rattle.schema_model.proofs.EditLemmas.{relation_sound, relation_set, relation_renamed}
use Rattle.schema_model.proofs.database.Database.edit.Goals as goal

pub edit-requires-clause-sound : goal.edit-requires-clause-sound
edit-requires-clause-sound c =
    let asked = rw (← c.self.view_is, c.in-At.is) at c.requires in
    relation_sound c.self.inside.relations.items c.in-At.rel c.index_mut-relation.result.now asked.fits.0 c.index_mut-relation.ensures.value c.in-At.edit asked.sound.relations

pub invariant_of-self : goal.invariant_of-self
invariant_of-self c =
    let asked = rw (← c.self.view_is, c.in-At.is) at c.requires in
    let is = relation_set c.self.inside.relations.items c.in-At.rel c.index_mut-relation.result.now asked.fits.0 c.index_mut-relation.ensures.value c.in-At.edit c.edit.new.self c.edit.ensures.value in
    subst (λ (rs : List RelationValue). IsDatabase (database_value c.self.inside.name rs)) (sym is) asked.sound

pub returns-in-At-clause-value : goal.returns-in-At-clause-value
returns-in-At-clause-value c =
    let asked = rw (← c.self.view_is, c.in-At.is) at c.requires in
    rw (← c.self.view_is, c.in-At.is) (ap (database_value c.self.inside.name)
    (relation_set c.self.inside.relations.items c.in-At.rel c.index_mut-relation.result.now asked.fits.0 c.index_mut-relation.ensures.value c.in-At.edit c.edit.new.self c.edit.ensures.value))

pub invariant_of-self-in-Ok : goal.invariant_of-self-in-Ok
invariant_of-self-in-Ok c =
    let asked = rw (← c.self.view_is, c.in-Put.is) at c.requires in
    subst (λ (rs : List RelationValue). IsDatabase (database_value c.self.inside.name rs)) (sym (ap (map plain_relation) c.in-Ok.ensures.items ∙ inserted_seen plain_relation c.self.inside.relations.items c.in-Put.place c.in-Put.relation)) asked.sound

pub returns-in-Ok-clause-value : goal.returns-in-Ok-clause-value
returns-in-Ok-clause-value c =
    rw (← c.self.view_is, c.in-Put.is) (ap (database_value c.self.inside.name) (ap (map plain_relation) c.in-Ok.ensures.items ∙ inserted_seen plain_relation c.self.inside.relations.items c.in-Put.place c.in-Put.relation))

pub invariant_of-self-in-Out : goal.invariant_of-self-in-Out
invariant_of-self-in-Out c =
    let asked = rw (← c.self.view_is, c.in-Out.is) at c.requires in
    subst (λ (rs : List RelationValue). IsDatabase (database_value c.self.inside.name rs)) (sym (ap (map plain_relation) c.remove.ensures.items ∙ removed_seen plain_relation c.self.inside.relations.items c.in-Out.place)) asked.sound

pub returns-in-Out-clause-value : goal.returns-in-Out-clause-value
returns-in-Out-clause-value c =
    rw (← c.self.view_is, c.in-Out.is) (ap (database_value c.self.inside.name) (ap (map plain_relation) c.remove.ensures.items ∙ removed_seen plain_relation c.self.inside.relations.items c.in-Out.place))

pub invariant_of-self-in-Ok-insert : goal.invariant_of-self-in-Ok-insert
invariant_of-self-in-Ok-insert c =
    let asked = rw (← c.self.view_is, c.in-Rename.is) at c.requires in
    let items = rw c.remove-relation.ensures.items at c.in-Ok-insert.ensures.items in
    let is = relation_renamed c.self.inside.relations.items c.in-Rename.place c.remove-relation.result asked.fits.0 c.remove-relation.ensures.value c.in-Rename.to c.in-Rename.name c.rename.new.self c.rename.ensures in
    subst (λ (rs : List RelationValue). IsDatabase (database_value c.self.inside.name rs)) (sym (ap (map plain_relation) items ∙ is)) asked.sound

pub returns-in-Ok-insert-clause-value : goal.returns-in-Ok-insert-clause-value
returns-in-Ok-insert-clause-value c =
    let asked = rw (← c.self.view_is, c.in-Rename.is) at c.requires in
    let items = rw c.remove-relation.ensures.items at c.in-Ok-insert.ensures.items in
    rw (← c.self.view_is, c.in-Rename.is) (ap (database_value c.self.inside.name) (ap (map plain_relation) items
    ∙ relation_renamed c.self.inside.relations.items c.in-Rename.place c.remove-relation.result asked.fits.0 c.remove-relation.ensures.value c.in-Rename.to c.in-Rename.name c.rename.new.self c.rename.ensures))

pub returns-in-At-clause-waiting : goal.returns-in-At-clause-waiting
returns-in-At-clause-waiting c =
    let asked = rw (← c.self.view_is, c.in-At.is) at c.requires in
    rw (← c.self.view_is, c.in-At.is) (put_seen (λ (r : RelationState). r.waiting) (waiting_left c.in-At.edit) c.self.inside.relations.items c.in-At.rel c.index_mut-relation.result.now c.edit.new.self asked.fits.0 c.index_mut-relation.ensures.value c.edit.ensures.waiting)

pub returns-in-At-clause-own : goal.returns-in-At-clause-own
returns-in-At-clause-own c =
    let asked = rw (← c.self.view_is, c.in-At.is) at c.requires in
    rw (← c.self.view_is, c.in-At.is) (put_seen (λ (r : RelationState). r.own) (own_left c.in-At.edit) c.self.inside.relations.items c.in-At.rel c.index_mut-relation.result.now c.edit.new.self asked.fits.0 c.index_mut-relation.ensures.value c.edit.ensures.own)
