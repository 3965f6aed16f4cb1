use Rattle.std.proofs.Common.{◌∙◌}
use Rattle.stack_levels.proofs.OpeningLemmas.{opened_ready}
use Rattle.stack_levels.proofs.opening.open.Goals as goal

pub returns-clause-levels : goal.returns-clause-levels
returns-clause-levels g c =
    let opened = c.in_ok-levels.ensures in
    (opened_ready c.args.catalogue.databases c.args.definitions.items c.in_ok-levels-2.levels c.requires opened.unrefused (c.in_ok-levels-2.ensures ∙ opened.opened)).0

pub returns-clause-fresh : goal.returns-clause-fresh
returns-clause-fresh g c =
    let opened = c.in_ok-levels.ensures in
    (opened_ready c.args.catalogue.databases c.args.definitions.items c.in_ok-levels-2.levels c.requires opened.unrefused (c.in_ok-levels-2.ensures ∙ opened.opened)).1
