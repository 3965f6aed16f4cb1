use Rattle.std.proofs.Common.{[], Some}
use Rattle.view_folder.proofs.FieldLemmas.{spliced_parts}
use Rattle.view_folder.proofs.TableFileLemmas.{spliced_some}
use Rattle.view_folder.proofs.fact_file.put_header.Goals as goal

pub returns-in_default : goal.returns-in_default
returns-in_default c = λ ended h.
    let put = rw c.cells-constants.ensures at (c.in_ok-put_texts.ensures ended [] h) in
    rw c.in_default.is (c.end_record.ensures ended c.args.shape.now.constants c.requires put)

pub returns : goal.returns
returns c = λ ended h.
    let constants = c.args.shape.now.constants in
    let front = c.in_ok-put_texts-2.ensures ended [] h in
    let columns = c.in_ok-put_labels.ensures ended _ front in
    let all = rw (c.cells-constants.ensures, spliced_parts c.in-Some.spot c.min-split.result constants c.args.columns.now (rw c.cells-constants.ensures at c.min-split.ensures)) at (c.in_ok-put_texts-3.ensures ended _ columns) in
    rw c.in-Some.is (c.end_record-2.ensures ended _ (spliced_some (Some c.in-Some.spot) constants c.args.columns.now c.requires) all)
