use Rattle.std.proofs.Common.{◌∙◌, Ok, sym}
use Rattle.outside.specs.Effects.{world_of}
use Rattle.journal_answers.proofs.OpeningLemmas.{opened_defined}
use Rattle.journal_answers.proofs.opening.open.Goals as goal

pub returns-in_ok-opened-in-Accepted-clause-opens : goal.returns-in_ok-opened-in-Accepted-clause-opens
returns-in_ok-opened-in-Accepted-clause-opens g c = λ t held d told kept defined.
    let printed = g.K.Sink.state c.args.output.now in
    let read = c.in_ok-fields.ensures in
    let told_as = read.told t d told defined in
    let accepted = rw c.in-Accepted.is at told_as in
    opened_defined t held.bytes _ d
    (world_of (g.F.Folders.state c.args.store.now) printed) (world_of (g.F.Folders.state c.read_definition.new.store) printed)
    (world_of (g.F.Folders.state c.open_defined.new.store) (g.K.Sink.state c.open_defined.new.output)) (Ok c.in_ok-opened-in-Accepted.opened)
    (sym accepted) (read.does printed) (c.in_ok-opened-in-Accepted.ensures.opens t held (read.only_read.tree ∙ told) kept)
