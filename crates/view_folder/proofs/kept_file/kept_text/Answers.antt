use Rattle.std.proofs.Common.{◌≢◌, [], sym, subst}
use Rattle.std.specs.List.{AllByRecursion}
use Rattle.ss_text.specs.Texts.{Row}
use Rattle.row_shelves.specs.Shelves.{all_rows}
use Rattle.row_shelves.proofs.ValueLemmas.{fact_of}
use Rattle.view_folder.proofs.TableFileLemmas.{spliced_some}
use Rattle.view_folder.proofs.KeptFileLemmas.{whole_text}
use Rattle.view_folder.proofs.kept_file.kept_text.Goals as goal

pub with_record-requires : goal.with_record-requires
with_record-requires c = spliced_some c.args.shape.now.spot c.args.shape.now.constants c.columns.result.now c.requires.some

pub with_shelves-requires : goal.with_shelves-requires
with_shelves-requires c =
    fact_of (λ (r : Row × Row). r.0 ≢ []) (all_rows c.shelves.result.now) (subst (AllByRecursion (λ (r : Row × Row). r.0 ≢ [])) (sym c.shelves.ensures.rows) c.requires.keys)

pub returns : goal.returns
returns c =
    let whole = whole_text c.args.shape.now c.args.table.now.table c.columns.result.now (all_rows c.shelves.result.now) c.in_ok-text.text c.in_ok-text-2.text c.in_ok-text-3.text
    c.columns.ensures.columns c.shelves.ensures.rows c.in_ok-text.ensures c.in_ok-text-2.ensures c.in_ok-text-3.ensures in
    rw whole at c.into_text.ensures
