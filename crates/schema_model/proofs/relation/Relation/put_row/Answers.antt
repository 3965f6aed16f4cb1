use Rattle.std.proofs.Common.{List, sym, ap, subst}
use Rattle.ss_text.specs.Texts.{Row}
use Rattle.schema_model.specs.Catalogue.{relation_value}
use Rattle.schema_model.specs.Placed.{placed_rows}
use Rattle.schema_model.specs.HeldRows.{placed_held}
use Rattle.schema_model.specs.Sound.{IsRelation}
use Rattle.schema_model.proofs.Kept.{row_fits}
use Rattle.schema_model.proofs.Seen.{holds_on_err}
use Rattle.schema_model.proofs.relation.Relation.put_row.Goals as goal

pub invariant_of-self : goal.invariant_of-self
invariant_of-self c = subst (λ (rows : List Row). IsRelation (relation_value c.self.inside.name c.self.inside.attributes rows)) (sym c.in_err-put.ensures.err) c.self.invariant

pub returns-in_err-put-clause-err : goal.returns-in_err-put-clause-err
returns-in_err-put-clause-err c = rw (← c.self.view_is) (holds_on_err c.from_residual.result (ap (relation_value c.self.inside.name c.self.inside.attributes) c.in_err-put.ensures.err))

pub invariant_of-self-2 : goal.invariant_of-self-2
invariant_of-self-2 c =
    subst (λ (rows : List Row). IsRelation (relation_value c.self.inside.name c.self.inside.attributes rows)) (sym c.in_ok-put.ensures.ok)
    (row_fits (relation_value c.self.inside.name c.self.inside.attributes (placed_rows (placed_held c.self.inside.rows))) c.args.row c.self.invariant (rw (← c.self.view_is) at c.requires))

pub returns-clause-ok : goal.returns-clause-ok
returns-clause-ok c = rw (← c.self.view_is) (ap (relation_value c.self.inside.name c.self.inside.attributes) c.in_ok-put.ensures.ok)
