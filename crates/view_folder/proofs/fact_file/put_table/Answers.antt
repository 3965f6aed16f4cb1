use Rattle.std.proofs.Common.{◌∙◌, [], subst}
use Rattle.std.specs.Prelude.{OnOk}
use Rattle.view_folder.specs.Fields.{IsWithin}
use Rattle.view_folder.proofs.FieldLemmas.{table_put}
use Rattle.view_folder.proofs.fact_file.put_table.Goals as goal

pub returns : goal.returns
returns t c = λ h.
    let header = c.in_ok-put_header.ensures [] h in
    subst (λ t. OnOk c.put_rows.result (IsWithin t [] c.put_rows.new.writer))
    (table_put c.args.shape.now c.args.facts.now.1 c.deref.result.now c.rows.result (c.deref.ensures.value ∙ c.in_ok-columns.ensures) c.rows.ensures)
    (c.put_rows.ensures _ header)
