use Rattle.std.proofs.Common.{◌<◌, length, refl, arith}
use Rattle.std.proofs.lemmas.Grind.{common_steps}
use Rattle.csv_catalog.proofs.JudgedLemmas.{fault_of_all}
use Rattle.csv_catalog.proofs.judge.all_read.Goals as goal

pub returns : goal.returns
returns c =
    let some : 0 < length c.args.records.items = grind (arith, common_steps) in
    λ count h. (refl, fault_of_all count c.args.records.items some h)
