use Rattle.std.proofs.Common.{◌≡◌, ◌+◌, ◌-◌, ◌≤◌, min, ℕ, length, take, drop, sym, ap, ◌∙◌, subst, arith}
use Rattle.change_journal.specs.States.{WindowState}
use Rattle.change_journal.specs.Spelled.{group_of}
use Rattle.change_journal.specs.Entries.{with_group}
use Rattle.change_journal.specs.Opening.{IsAhead, read_at, mark_of}
use Rattle.change_journal.specs.declared.mark.Mark.TheVariants as mark
use Rattle.change_journal.proofs.GroupLemmas.{formed}
use Rattle.change_journal.proofs.OpeningLemmas.{known, next_entry, gone_past}
use Rattle.change_journal.proofs.entries.read_next.Goals as goal

pub returns-in-Some-clause-next : goal.returns-in-Some-clause-next
returns-in-Some-clause-next g c =
    let s = c.fill.new.self in
    let t = c.fill-in-Sized.new.self in
    let n = c.in-Sized.n in
    let left = c.left-left.result in
    let all : s.place + left ≡ s.size = omega (arith, c.left-left.ensures.left, c.in_ok-fill.ensures.place, c.in_ok-fill.ensures.size) in
    let then_all : t.place + left ≡ t.size = omega (arith, all, c.in_ok-fill-in-Sized.ensures.place, c.in_ok-fill-in-Sized.ensures.size) in
    let enough : min left 5 ≤ length s.ahead = omega (arith, c.in_ok-fill.ensures.enough, c.min.ensures) in
    let place : c.args.window.now.place ≡ t.place = sym c.in_ok-fill.ensures.place ∙ sym c.in_ok-fill-in-Sized.ensures.place in
    let size : 5 + n - 5 ≡ n = omega arith in
    let text = rw c.in-Some.is at c.in_ok-group-in-Sized.ensures in
    λ held told.
    let is = c.in_ok-fill.ensures.reading held (c.in_ok-fill.ensures.content ∙ told) in
    let then_is = c.in_ok-fill-in-Sized.ensures.reading held (c.in_ok-fill-in-Sized.ensures.content ∙ c.in_ok-fill.ensures.content ∙ told) in
    let first = known s held.bytes is left all enough ∙ ap mark_of (sym c.ahead.ensures) ∙ sym c.of.ensures.value ∙ c.in-Sized.is in
    let then_first = subst (λ (p : ℕ). mark_of (drop p held.bytes) ≡ mark.Sized n) (sym c.in_ok-fill-in-Sized.ensures.place) first in
    ap (λ (p : ℕ). read_at p held.bytes) place
    ∙ next_entry t held.bytes then_is n then_first c.in-Some.group.items left then_all c.if-left-n.false c.in_ok-fill-in-Sized.ensures.enough (text ∙ (λ i. group_of (take (size i) (drop 5 (c.ahead-in-Sized.ensures i)))))
    ∙ ap (λ (w : WindowState). with_group c.in-Some.group.items (read_at w.place held.bytes)) (sym c.pass.ensures)

pub returns-in-Some-clause-reading : goal.returns-in-Some-clause-reading
returns-in-Some-clause-reading g c = λ held told.
    subst (λ (w : WindowState). IsAhead w held.bytes) (sym c.pass.ensures) (gone_past c.fill-in-Sized.new.self held.bytes (5 + c.in-Sized.n) (c.in_ok-fill-in-Sized.ensures.reading held told) c.in_ok-fill-in-Sized.ensures.enough)

pub returns-in-Some-clause-formed : goal.returns-in-Some-clause-formed
returns-in-Some-clause-formed g c = formed (take (5 + c.in-Sized.n - 5) (drop 5 c.ahead-in-Sized.result.now)) c.in-Some.group.items (sym (rw c.in-Some.is at c.in_ok-group-in-Sized.ensures))
