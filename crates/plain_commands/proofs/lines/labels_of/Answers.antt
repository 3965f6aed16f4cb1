use Rattle.std.proofs.Common.{◌<◌, length, arith}
use Rattle.std.proofs.lemmas.Grind.{common_steps}
use Rattle.change_script.proofs.BetweenLemmas.{label_more}
use Rattle.plain_commands.proofs.lines.labels_of.Goals as goal

pub loop-place-preserved : goal.loop-place-preserved
loop-place-preserved c =
    let lt : c.loop-place.place < length c.args.tables.now = omega arith in
    grind (arith, common_steps, label_more c.args.tables.now c.loop-place.place lt)
