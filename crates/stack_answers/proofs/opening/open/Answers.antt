use Rattle.std.proofs.Common.{◌∙◌, Ok}
use Rattle.outside.specs.Effects.{world_of}
use Rattle.stack_levels.specs.Opening.{defined_views}
use Rattle.stack_answers.specs.Opening.{all_accepted}
use Rattle.stack_answers.proofs.OpeningLemmas.{defined_behind}
use Rattle.stack_answers.proofs.opening.open.Goals as goal

pub returns-in_ok-opened-in-Accepted-clause-opens : goal.returns-in_ok-opened-in-Accepted-clause-opens
returns-in_ok-opened-in-Accepted-clause-opens g c = λ t ds told defined.
    let printed = g.K.Sink.state c.args.output.now in
    let read = c.in_ok-fields.ensures in
    let views = rw c.in-Accepted.is at read.told t ds told defined in
    defined_behind t (all_accepted ds) (defined_views c.in-Accepted.definitions.items)
    (world_of (g.F.Folders.state c.args.store.now) printed) (world_of (g.F.Folders.state c.read_definitions.new.store) printed)
    (world_of (g.F.Folders.state c.open_views.new.store) (g.K.Sink.state c.open_views.new.output)) (Ok c.in_ok-opened-in-Accepted.opened)
    views (read.does printed) (c.in_ok-opened-in-Accepted.ensures.opens t (read.only_read.tree ∙ told))
