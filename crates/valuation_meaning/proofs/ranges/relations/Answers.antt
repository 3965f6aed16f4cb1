use Rattle.std.proofs.Common.{◌≡◌, ◌∙◌, ap, arith, length, map, take, ℕ}
use Rattle.std.proofs.Math.Seq.{take-length}
use Rattle.schema_model.specs.States.{RelationState}
use Rattle.view_meaning.specs.Elements.{A_text}
use Rattle.valuation_meaning.proofs.ElementLemmas.{relation_names}
use Rattle.valuation_meaning.proofs.ranges.relations.Goals as goal

pub returns : goal.returns
returns c =
    let all = c.args.relations.now in
    let end : c.loop-relation.relation-index ≡ length all = omega (arith, c.loop-relation-test.false, c.loop-relation.auto.relation-index-end) in
    let names = λ (d : RelationState). A_text d.name in
    c.loop-relation.invariant ∙ ap (λ (n : ℕ). map names (take n all)) end ∙ ap (map names) (take-length all) ∙ relation_names all
