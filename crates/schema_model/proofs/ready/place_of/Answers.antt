use Rattle.std.proofs.Common.{rules}
use Rattle.std.proofs.lemmas.Fn.{always_returns_same}
use Rattle.ss_text.specs.Texts.{text_cmp}
use Rattle.ss_text.proofs.KeyLemmas.{text_order, searched_seen}
use Rattle.schema_model.specs.Catalogue.{database_name}
use Rattle.schema_model.specs.States.{DatabaseState, plain_database}
use Rattle.schema_model.proofs.ready.place_of.Goals as goal

pub returns : goal.returns
returns c =
    let facts = c.binary_search_by.ensures in
    let by_name = facts.position (λ (d : DatabaseState). text_cmp d.name c.args.name.now) (always_returns_same _ _ _ (λ a r g called. search rules)) in
    searched_seen text_order database_name plain_database c.args.name.now c.args.databases.now.items c.binary_search_by.result c.requires.names.ascend (rw c.deref.ensures.value at facts.bound) (rw c.deref.ensures.value at by_name)
