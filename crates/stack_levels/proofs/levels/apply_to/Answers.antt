use Rattle.stack_levels.specs.States.{lowest_catalogue, views_of}
use Rattle.stack_levels.proofs.TakingLemmas.{applied, refused_told}
use Rattle.stack_levels.proofs.levels.apply_to.Goals as goal

pub returns-in-Ok-clause-applied : goal.returns-in-Ok-clause-applied
returns-in-Ok-clause-applied g c =
    let took = c.in-Ok.ensures in
    applied c.args.levels.now c.apply_levels.new.levels c.args.names.now c.args.changes.now c.in-Ok.all.items c.requires.levels c.requires.names (record {
      taken = took.taken;
      lines = took.lines;
      unrefused = took.unrefused;
      over = took.over;
      levels = took.levels;
      stack = c.apply_levels.ensures.stack;
    })

pub returns-in-Err-clause-refused : goal.returns-in-Err-clause-refused
returns-in-Err-clause-refused g c =
    let levels = c.args.levels.now in
    let refused = c.in-Err.ensures in
    c.of.ensures (lowest_catalogue levels) (views_of levels) c.args.changes.now
    (refused_told levels c.args.names.now c.args.changes.now c.in-Err.refused.level c.in-Err.refused.why c.requires.levels c.requires.names refused.refused refused.told)
