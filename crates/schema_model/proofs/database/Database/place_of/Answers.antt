use Rattle.std.proofs.Common.{rules}
use Rattle.std.proofs.lemmas.Fn.{always_returns_same}
use Rattle.ss_text.specs.Texts.{text_cmp}
use Rattle.ss_text.proofs.KeyLemmas.{text_order, searched_seen}
use Rattle.schema_model.specs.Catalogue.{relation_name}
use Rattle.schema_model.specs.States.{RelationState, plain_relation}
use Rattle.schema_model.proofs.database.Database.place_of.Goals as goal

pub returns : goal.returns
returns c =
    let facts = c.binary_search_by.ensures in
    let by_name = facts.position (λ (r : RelationState). text_cmp r.name c.args.name.now) (always_returns_same _ _ _ (λ a r g called. search rules)) in
    rw (← c.self.view_is) (searched_seen text_order relation_name plain_relation c.args.name.now c.self.inside.relations.items c.binary_search_by.result c.self.invariant.names.ascend (rw c.deref.ensures.value at facts.bound) (rw c.deref.ensures.value at by_name))
