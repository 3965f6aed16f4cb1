use Rattle.std.proofs.Common.{◌<◌, length, sym, subst, arith}
use Rattle.schema_model.specs.States.{plain_relation}
use Rattle.valuation_meaning.specs.Indexed.{Indexed}
use Rattle.valuation_meaning.proofs.ElementLemmas.{row_there, rows_long}
use Rattle.valuation_meaning.proofs.index.Index.element.Goals as goal

pub of_row-requires : goal.of_row-requires
of_row-requires c =
    let p = c.args.position in
    let r = plain_relation c.self.inside.relation.now in
    let within = subst (λ (i : Indexed). p < length i.0.rows) (sym c.self.view_is) c.requires in
    let lt : p < length c.self.inside.rows.items = omega (arith, within, rows_long c.self.inside.rows.items r.rows c.self.invariant.rows) in
    row_there c.self.inside.rows.items r.rows p c.index.result.now c.self.invariant.rows lt c.index.ensures
