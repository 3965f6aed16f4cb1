use Rattle.std.proofs.Common.{Bool, true, ◌∙◌, sym, ap, subst, List}
use Rattle.schema_model.specs.Catalogue.{RelationValue, database_value}
use Rattle.schema_model.specs.Sound.{IsDatabase}
use Rattle.schema_model.specs.States.{RelationState, plain_relation}
use Rattle.schema_model.proofs.Seen.{same_seen, kept_seen, put_seen}
use Rattle.schema_model.proofs.database.Database.own_rows.Goals as goal

pub invariant_of-self : goal.invariant_of-self
invariant_of-self c =
    let there = rw (← c.self.view_is) at c.requires in
    let same = same_seen plain_relation c.self.inside.relations.items c.args.rel c.own_rows.new.self c.index_mut-relation.result.now there (c.own_rows.ensures.value ∙ ap plain_relation c.index_mut-relation.ensures.value) in
    subst (λ (rs : List RelationValue). IsDatabase (database_value c.self.inside.name rs)) (sym same) c.self.invariant

pub invariant_of-self-2 : goal.invariant_of-self-2
invariant_of-self-2 c =
    let there = rw (← c.self.view_is) at c.requires in
    let same = same_seen plain_relation c.self.inside.relations.items c.args.rel c.own_rows.new.self c.index_mut-relation.result.now there (c.own_rows.ensures.value ∙ ap plain_relation c.index_mut-relation.ensures.value) in
    subst (λ (rs : List RelationValue). IsDatabase (database_value c.self.inside.name rs)) (sym same) c.self.invariant

pub returns-in_err-own_rows-clause-value : goal.returns-in_err-own_rows-clause-value
returns-in_err-own_rows-clause-value c =
    let there = rw (← c.self.view_is) at c.requires in
    let same = same_seen plain_relation c.self.inside.relations.items c.args.rel c.own_rows.new.self c.index_mut-relation.result.now there (c.own_rows.ensures.value ∙ ap plain_relation c.index_mut-relation.ensures.value) in
    rw (← c.self.view_is) (ap (database_value c.self.inside.name) same)

pub returns-in_err-own_rows-clause-waiting : goal.returns-in_err-own_rows-clause-waiting
returns-in_err-own_rows-clause-waiting c =
    let there = rw (← c.self.view_is) at c.requires in
    rw (← c.self.view_is) (kept_seen (λ (r : RelationState). r.waiting) c.self.inside.relations.items c.args.rel c.index_mut-relation.result.now c.own_rows.new.self there c.index_mut-relation.ensures.value c.own_rows.ensures.waiting)

pub returns-clause-value : goal.returns-clause-value
returns-clause-value c =
    let there = rw (← c.self.view_is) at c.requires in
    let same = same_seen plain_relation c.self.inside.relations.items c.args.rel c.own_rows.new.self c.index_mut-relation.result.now there (c.own_rows.ensures.value ∙ ap plain_relation c.index_mut-relation.ensures.value) in
    rw (← c.self.view_is) (ap (database_value c.self.inside.name) same)

pub returns-clause-waiting : goal.returns-clause-waiting
returns-clause-waiting c =
    let there = rw (← c.self.view_is) at c.requires in
    rw (← c.self.view_is) (kept_seen (λ (r : RelationState). r.waiting) c.self.inside.relations.items c.args.rel c.index_mut-relation.result.now c.own_rows.new.self there c.index_mut-relation.ensures.value c.own_rows.ensures.waiting)

pub returns-clause-ok : goal.returns-clause-ok
returns-clause-ok c =
    let there = rw (← c.self.view_is) at c.requires in
    rw (← c.self.view_is) (put_seen (λ (r : RelationState). r.own) (λ (own : Bool). true) c.self.inside.relations.items c.args.rel c.index_mut-relation.result.now c.own_rows.new.self there c.index_mut-relation.ensures.value c.in_ok-own_rows.ensures.ok)
