use Rattle.std.proofs.Common.{[], Some, length, subst, arith}
use Rattle.std.proofs.lemmas.List.{take_all}
use Rattle.view_folder.specs.Fields.{IsWithin}
use Rattle.view_folder.proofs.FieldLemmas.{spliced_split}
use Rattle.view_folder.proofs.TableFileLemmas.{spliced_some}
use Rattle.view_folder.proofs.fact_file.put_row.Goals as goal

pub returns-in_default : goal.returns-in_default
returns-in_default t c = λ ended h.
    let key = c.args.row.now.0 in
    let put = rw (c.key_len-len.ensures, take_all (length key) key (omega arith)) at (c.in_ok-put_key.ensures ended [] h) in
    rw c.in_default.is (c.end_record.ensures ended key c.requires put)

pub returns : goal.returns
returns t c = λ ended h.
    let key = c.args.row.now.0 in
    let split = rw c.key_len-len.ensures at c.min-split.ensures in
    let front = c.in_ok-put_key-2.ensures ended [] h in
    let cells = c.in_ok-put_cells.ensures ended _ front in
    let rest = rw (c.key_len-len.ensures, take_all (length key) key (omega arith)) at (c.in_ok-put_key-3.ensures ended _ cells) in
    let all = subst (λ fs. IsWithin ended fs c.put_key-3.new.writer) (spliced_split c.in-Some.spot c.min-split.result key c.args.row.now.1 split) rest in
    rw c.in-Some.is (c.end_record-2.ensures ended _ (spliced_some (Some c.in-Some.spot) key c.args.row.now.1 c.requires) all)
