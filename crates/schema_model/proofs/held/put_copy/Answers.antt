use Rattle.std.proofs.Common.{◌∙◌, ◌++◌, ◌∷◌, [], ap, List}
use Rattle.ss_text.specs.Texts.{Row}
use Rattle.schema_model.specs.Placed.{placed_rows}
use Rattle.schema_model.specs.RowsKept.{placed_in}
use Rattle.schema_model.specs.declared.rows.Rows.{Rows}
use Rattle.schema_model.proofs.held.put_copy.Goals as goal

pub returns-clause-ok : goal.returns-clause-ok
returns-clause-ok c =
    ap (λ (rows : Rows). placed_rows (placed_in rows)) c.in_ok-copy.ensures.ok
    ∙ c.in_ok-put.ensures.ok
    ∙ ap (λ (kept : List Row). kept ++ c.args.row ∷ []) c.in_ok-rows.ensures.rows
