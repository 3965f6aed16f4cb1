use Rattle.std.proofs.Common.{◌+◌, ◌++◌, length, take, drop, sym, ap, ◌∙◌}
use Rattle.change_journal.specs.States.{WindowState}
use Rattle.change_journal.proofs.OpeningLemmas.{read_on}
use Rattle.change_journal.proofs.window.Window.fill.Goals as goal

pub returns-clause-reading : goal.returns-clause-reading
returns-clause-reading g c =
    let s = c.args.self.now in
    let place = ap (λ (w : WindowState). w.place) c.self.view_is in
    λ held told.
    let was = sym c.in_ok-read.ensures.content ∙ told in
    read_on s _ held.bytes c.in_ok-read.read.items c.min-more.result (c.requires.reading held was) (ap (λ (w : WindowState). w.size) c.self.view_is) place
    (c.in_ok-extend_from_slice.ensures.items ∙ (λ i. (c.in_ok-piece.ensures.items ∙ c.ahead-2.ensures) i ++ c.deref.ensures.value i))
    (c.in_ok-read.ensures.told held was ∙ (λ i. take c.min-more.result (drop (place i + length (c.ahead.ensures i)) held.bytes)))
    c.in_ok-read.ensures.len
