use Rattle.std.proofs.Common.{◌≡◌, ◌∙◌, ap, length}
use Rattle.ss_text.specs.Texts.{Row}
use Rattle.schema_model.specs.Placed.{row_at}
use Rattle.schema_model.specs.RowsKept.{placed_in}
use Rattle.schema_model.specs.HeldRows.{placed_held}
use Rattle.schema_model.specs.declared.rows.Rows.{Rows}
use Rattle.schema_model.proofs.NumberedLemmas.{each_placed}
use Rattle.schema_model.proofs.relation.Relation.row.Goals as goal

pub returns-clause-fits : goal.returns-clause-fits
returns-clause-fits c =
    rw (← c.self.view_is) (ap length (c.row.ensures ∙ ap (λ (rows : Rows). row_at c.args.place (placed_in rows)) c.kept.ensures)
    ∙ each_placed (λ (row : Row). length row ≡ length c.self.inside.attributes) c.args.place (placed_held c.self.inside.rows) (rw (← c.self.view_is) at c.requires) c.self.invariant.fits)
