use Rattle.std.proofs.Common.{Bool, true, ◌∙◌, ◌∷◌, sym, ap, subst, List}
use Rattle.ss_text.specs.Texts.{Row}
use Rattle.schema_model.specs.Catalogue.{RelationValue, database_value}
use Rattle.schema_model.specs.Sound.{IsDatabase}
use Rattle.schema_model.specs.States.{RelationState, plain_relation}
use Rattle.schema_model.proofs.Seen.{same_seen, put_seen}
use Rattle.schema_model.proofs.database.Database.wait_row.Goals as goal

pub invariant_of-self : goal.invariant_of-self
invariant_of-self c =
    let there = rw (← c.self.view_is) at c.requires in
    let same = same_seen plain_relation c.self.inside.relations.items c.args.rel c.wait.new.self c.index_mut-relation.result.now there (c.wait.ensures.value ∙ ap plain_relation c.index_mut-relation.ensures.value) in
    subst (λ (rs : List RelationValue). IsDatabase (database_value c.self.inside.name rs)) (sym same) c.self.invariant

pub returns-in_err-wait-clause-value : goal.returns-in_err-wait-clause-value
returns-in_err-wait-clause-value c =
    let there = rw (← c.self.view_is) at c.requires in
    let same = same_seen plain_relation c.self.inside.relations.items c.args.rel c.wait.new.self c.index_mut-relation.result.now there (c.wait.ensures.value ∙ ap plain_relation c.index_mut-relation.ensures.value) in
    rw (← c.self.view_is) (ap (database_value c.self.inside.name) same)

pub invariant_of-self-2 : goal.invariant_of-self-2
invariant_of-self-2 c =
    let there = rw (← c.self.view_is) at c.requires in
    let same = same_seen plain_relation c.self.inside.relations.items c.args.rel c.wait.new.self c.index_mut-relation.result.now there (c.wait.ensures.value ∙ ap plain_relation c.index_mut-relation.ensures.value) in
    subst (λ (rs : List RelationValue). IsDatabase (database_value c.self.inside.name rs)) (sym same) c.self.invariant

pub returns-clause-value : goal.returns-clause-value
returns-clause-value c =
    let there = rw (← c.self.view_is) at c.requires in
    let same = same_seen plain_relation c.self.inside.relations.items c.args.rel c.wait.new.self c.index_mut-relation.result.now there (c.wait.ensures.value ∙ ap plain_relation c.index_mut-relation.ensures.value) in
    rw (← c.self.view_is) (ap (database_value c.self.inside.name) same)

pub returns-clause-ok : goal.returns-clause-ok
returns-clause-ok c =
    let there = rw (← c.self.view_is) at c.requires in
    rw (← c.self.view_is) (put_seen (λ (r : RelationState). r.waiting) (λ (waiting : List Row). c.args.row ∷ waiting) c.self.inside.relations.items c.args.rel c.index_mut-relation.result.now c.wait.new.self there c.index_mut-relation.ensures.value c.in_ok-wait.ensures.ok)

pub returns-clause-own : goal.returns-clause-own
returns-clause-own c =
    let there = rw (← c.self.view_is) at c.requires in
    rw (← c.self.view_is) (put_seen (λ (r : RelationState). r.own) (λ (own : Bool). true) c.self.inside.relations.items c.args.rel c.index_mut-relation.result.now c.wait.new.self there c.index_mut-relation.ensures.value c.in_ok-wait.ensures.own)
