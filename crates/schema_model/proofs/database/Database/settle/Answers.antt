use Rattle.std.proofs.Common.{◌<◌, ◌∙◌, sym, ap, subst, List, length, arith}
use Rattle.std.proofs.lemmas.Grind.{common_steps}
use Rattle.schema_model.specs.Catalogue.{RelationValue, database_value}
use Rattle.schema_model.specs.Sound.{IsDatabase}
use Rattle.schema_model.specs.States.{plain_relation}
use Rattle.schema_model.proofs.Seen.{same_seen}
use Rattle.schema_model.proofs.database.Database.settle.Goals as goal

pub invariant_of-self : goal.invariant_of-self
invariant_of-self c =
    let there : c.args.rel < length c.self.inside.relations.items = grind (arith, common_steps) in
    let same = same_seen plain_relation c.self.inside.relations.items c.args.rel c.settle.new.self c.index_mut-relation.result.now there (c.settle.ensures ∙ ap plain_relation c.index_mut-relation.ensures.value) in
    subst (λ (rs : List RelationValue). IsDatabase (database_value c.self.inside.name rs)) (sym same) c.self.invariant

pub returns-then-rel-len : goal.returns-then-rel-len
returns-then-rel-len c =
    let there : c.args.rel < length c.self.inside.relations.items = grind (arith, common_steps) in
    let same = same_seen plain_relation c.self.inside.relations.items c.args.rel c.settle.new.self c.index_mut-relation.result.now there (c.settle.ensures ∙ ap plain_relation c.index_mut-relation.ensures.value) in
    rw (← c.self.view_is) (ap (database_value c.self.inside.name) same)
