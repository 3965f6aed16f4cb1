use Rattle.std.proofs.Common.{◌++◌, [], subst}
use Rattle.csv_catalog.specs.RecordText.{record_text}
use Rattle.view_folder.specs.Fields.{IsWithin}
use Rattle.flow_law.specs.Records.{spliced}
use Rattle.view_folder.proofs.FieldLemmas.{row_put, rows_put}
use Rattle.view_folder.proofs.fact_file.put_rows.Goals as goal

pub loop-row-preserved : goal.loop-row-preserved
loop-row-preserved t c =
    let row = c.in-Some.row in
    record {
      keys = (rw c.in-Some.ensures.next at c.loop-row.invariant.keys).1;
      text = λ ended h.
          let so_far = c.loop-row.invariant.text ended h in
          (so_far.0 ++ record_text (spliced c.args.spot row.0 row.1), c.in_ok-put_row.ensures so_far.0 so_far.1, row_put c.args.spot so_far.0 _ c.loop-row.rows c.take_next.new.self row c.in-Some.ensures.next so_far.2);
    }

pub returns : goal.returns
returns t c = λ ended h.
    let so_far = c.loop-row.invariant.text ended h in
    subst (λ t. IsWithin t [] c.loop-row.writer) (rows_put c.args.spot so_far.0 _ c.loop-row.rows c.in_default.ensures.none so_far.2) so_far.1
