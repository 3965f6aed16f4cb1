use Rattle.std.proofs.Common.{◌≡◌, ◌∙◌, sym, ap, subst}
use Rattle.ss_text.specs.Texts.{Text, Row}
use Rattle.schema_model.specs.Catalogue.{relation_value}
use Rattle.schema_model.specs.Placed.{placed_rows}
use Rattle.schema_model.specs.HeldRows.{placed_held}
use Rattle.schema_model.specs.Sound.{IsRelation}
use Rattle.schema_model.proofs.relation.Relation.copy.Goals as goal

pub invariant_of-result : goal.invariant_of-result
invariant_of-result c =
    let f = c.self.inside in
    let rows = placed_rows (placed_held c.in_ok-rows.rows) in
    let same : relation_value c.in_ok-name.name c.in_ok-attributes.attributes rows ≡ relation_value f.name f.attributes (placed_rows (placed_held f.rows))
    = ap (λ (n : Text). relation_value n c.in_ok-attributes.attributes rows) c.in_ok-name.ensures
    ∙ ap (λ (names : Row). relation_value f.name names rows) c.in_ok-attributes.ensures
    ∙ ap (relation_value f.name f.attributes) c.in_ok-rows.ensures in
    subst IsRelation (sym same) c.self.invariant

pub returns : goal.returns
returns c =
    let f = c.self.inside in
    let rows = placed_rows (placed_held c.in_ok-rows.rows) in
    let same : relation_value c.in_ok-name.name c.in_ok-attributes.attributes rows ≡ relation_value f.name f.attributes (placed_rows (placed_held f.rows))
    = ap (λ (n : Text). relation_value n c.in_ok-attributes.attributes rows) c.in_ok-name.ensures
    ∙ ap (λ (names : Row). relation_value f.name names rows) c.in_ok-attributes.ensures
    ∙ ap (relation_value f.name f.attributes) c.in_ok-rows.ensures in
    rw (← c.self.view_is) same
