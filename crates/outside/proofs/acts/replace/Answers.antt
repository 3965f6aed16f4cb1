use Rattle.std.proofs.Common.{Err, ap}
use Rattle.outside.proofs.EditLemmas.{all_made, some_made, none_made}
use Rattle.outside.proofs.acts.replace.Goals as goal

pub returns-in-Ok : goal.returns-in-Ok
returns-in-Ok g c = all_made c.args.edits.now _ _ tt c.in-Ok.ensures.ok c.in-Ok.ensures.read_faults c.in-Ok.ensures.steady

pub returns-in-Err-Failed : goal.returns-in-Err-Failed
returns-in-Err-Failed g c =
    let is = ap Err c.in-Err-Failed.field-0-is in
    some_made c.args.edits.now _ _ _ (c.in-Err-Failed.ensures.whole is) c.in-Err-Failed.ensures.read_faults c.in-Err-Failed.ensures.steady (c.in-Err-Failed.ensures.failed is)

pub returns-in-Err-NoMemory : goal.returns-in-Err-NoMemory
returns-in-Err-NoMemory g c =
    let is = ap Err c.in-Err-NoMemory.field-0-is in
    none_made c.args.edits.now _ _ _ (c.in-Err-NoMemory.ensures.no_memory is) (c.in-Err-NoMemory.ensures.uncounted is) c.in-Err-NoMemory.ensures.read_faults c.in-Err-NoMemory.ensures.steady
