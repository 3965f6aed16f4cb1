use Rattle.std.proofs.Common.{◌∙◌}
use Rattle.row_shelves.proofs.SameLemmas.{found_is}
use Rattle.row_shelves.proofs.find.has.Goals as goal

pub returns : goal.returns
returns c = c.is_ok.ensures.value ∙ found_is c.args.shelves.now c.args.key.now c.find.result c.find.ensures.found c.find.ensures.absent
