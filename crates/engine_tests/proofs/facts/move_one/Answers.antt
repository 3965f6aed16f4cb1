use Rattle.std.proofs.Common.{List, sym, ap, ◌∙◌}
use Rattle.std.specs.List.{position}
use Rattle.ss_text.specs.Texts.{Row, row_eq}
use Rattle.engine_tests.proofs.Moved.{one_comes, one_goes}
use Rattle.engine_tests.proofs.facts.move_one.Goals as goal

pub returns-then-m : goal.returns-then-m
returns-then-m c = λ moved. rw (c.in_ok-push.ensures.items, c.in_ok-copy.ensures) (one_comes c.args.rows.now.items c.args.m.now c.if-m.true)

pub returns-in-Some : goal.returns-in-Some
returns-in-Some c = λ moved.
    let at = ap (λ (rows : List Row). position (row_eq c.args.m.now.row) rows) (sym c.deref.ensures.value) ∙ sym c.in-Some.ensures in
    rw c.remove.ensures.items (one_goes c.args.rows.now.items c.args.m.now c.in-Some.place c.if-m.false at)
