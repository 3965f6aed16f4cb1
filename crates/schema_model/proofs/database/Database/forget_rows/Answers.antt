use Rattle.std.proofs.Common.{◌∙◌, sym, ap, subst, List}
use Rattle.schema_model.specs.Catalogue.{RelationValue, database_value}
use Rattle.schema_model.specs.Sound.{IsDatabase}
use Rattle.schema_model.specs.States.{plain_relation}
use Rattle.schema_model.proofs.Seen.{same_seen}
use Rattle.schema_model.proofs.database.Database.forget_rows.Goals as goal

pub invariant_of-self : goal.invariant_of-self
invariant_of-self c =
    let there = rw (← c.self.view_is) at c.requires in
    let same = same_seen plain_relation c.self.inside.relations.items c.args.rel c.forget.new.self c.index_mut-relation.result.now there (c.forget.ensures ∙ ap plain_relation c.index_mut-relation.ensures.value) in
    subst (λ (rs : List RelationValue). IsDatabase (database_value c.self.inside.name rs)) (sym same) c.self.invariant

pub returns-in_err-forget : goal.returns-in_err-forget
returns-in_err-forget c =
    let there = rw (← c.self.view_is) at c.requires in
    let same = same_seen plain_relation c.self.inside.relations.items c.args.rel c.forget.new.self c.index_mut-relation.result.now there (c.forget.ensures ∙ ap plain_relation c.index_mut-relation.ensures.value) in
    rw (← c.self.view_is) (ap (database_value c.self.inside.name) same)

pub invariant_of-self-2 : goal.invariant_of-self-2
invariant_of-self-2 c =
    let there = rw (← c.self.view_is) at c.requires in
    let same = same_seen plain_relation c.self.inside.relations.items c.args.rel c.forget.new.self c.index_mut-relation.result.now there (c.forget.ensures ∙ ap plain_relation c.index_mut-relation.ensures.value) in
    subst (λ (rs : List RelationValue). IsDatabase (database_value c.self.inside.name rs)) (sym same) c.self.invariant

pub returns : goal.returns
returns c =
    let there = rw (← c.self.view_is) at c.requires in
    let same = same_seen plain_relation c.self.inside.relations.items c.args.rel c.forget.new.self c.index_mut-relation.result.now there (c.forget.ensures ∙ ap plain_relation c.index_mut-relation.ensures.value) in
    rw (← c.self.view_is) (ap (database_value c.self.inside.name) same)
