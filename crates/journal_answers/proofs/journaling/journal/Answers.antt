use Rattle.std.proofs.Common.{◌≡◌, false, refl, inl}
use Rattle.std.proofs.lemmas.Result.{err_from_is_err_and}
use Rattle.outside.specs.Effects.{world_of}
use Rattle.tab_lines.specs.Lines.{lines_of}
use Rattle.journal_log.specs.Logs.{log_of}
use Rattle.course.specs.Course.{by_lines, is_done}
use Rattle.opened_view.proofs.LimitLemmas.{unspent, drove_steps}
use Rattle.opened_view.proofs.MaintainLemmas.{opening_stopped, opening_ended, opening_drove, took_answering, enough_answering, ended_enough, open_reads, some_ended, some_stopped, some_drove}
use Rattle.journal_answers.specs.Answers.{step, note, finish}
use Rattle.journal_answers.specs.Limits.{limit}
use Rattle.journal_answers.specs.Opening.{opening}
use Rattle.journal_answers.proofs.JournalLemmas.{ran_over, some_held_up, took_held_up, done_whole, only_full, drove_can, disk_later, only_read, opened_kept, ended_kept, stopped_kept, held_up_kept}
use Rattle.journal_answers.proofs.journaling.journal.Goals as goal

pub returns-in_err-view-clause-ran : goal.returns-in_err-view-clause-ran
returns-in_err-view-clause-ran g c = λ t held bytes d told kept given defined.
    let p = err_from_is_err_and c.from_residual.result c.from_residual.ensures.1 in
    rw (p.1, p.2) (opening_stopped step finish (opening t held.bytes d) bytes (g.S.Source.rest c.args.input.now) (world_of (g.F.Folders.state c.args.store.now) (g.K.Sink.state c.args.output.now)) (world_of (g.F.Folders.state c.open.new.store) (g.K.Sink.state c.open.new.output)) c.in_err-view.field-0.0 (c.in_err-view.ensures.opens t held d told kept defined))

pub returns-in_err-view-clause-some : goal.returns-in_err-view-clause-some
returns-in_err-view-clause-some g c = λ t held d told kept defined.
    let p = err_from_is_err_and c.from_residual.result c.from_residual.ensures.1 in
    rw (p.1, p.2) (some_stopped step finish (opening t held.bytes d) (world_of (g.F.Folders.state c.args.store.now) (g.K.Sink.state c.args.output.now)) (world_of (g.F.Folders.state c.open.new.store) (g.K.Sink.state c.open.new.output)) c.in_err-view.field-0.0 (c.in_err-view.ensures.opens t held d told kept defined))

pub returns-in_err-view-clause-within : goal.returns-in_err-view-clause-within
returns-in_err-view-clause-within g c = λ t held bytes d told kept given defined. unspent step limit (opening t held.bytes d) (lines_of bytes) _ _ c.in_err-view.ensures.steps

pub returns-in_err-view-clause-kept : goal.returns-in_err-view-clause-kept
returns-in_err-view-clause-kept g c = λ t held d es told kept defined first.
    let p = err_from_is_err_and c.from_residual.result c.from_residual.ensures.1 in
    let laws = g.met.D.Disk in
    rw (p.1, p.2) (stopped_kept step note (log_of g.D.Disk.state g.D.Disk.left_since) (opening t held.bytes d) es (g.S.Source.rest c.args.input.now) (g.S.Source.rest c.args.input.now) c.args.disk.now c.open.new.disk _ _ c.in_err-view.field-0.0
    (only_read g.D.Disk.state g.D.Disk.left_since es c.args.disk.now c.open.new.disk (laws.counts_now c.args.disk.now) (laws.only_now c.open.new.disk) c.in_err-view.ensures.content c.in_err-view.ensures.time first))

pub returns-in-Open-clause-ran : goal.returns-in-Open-clause-ran
returns-in-Open-clause-ran g c = λ t held bytes d told kept given defined.
    ran_over (by_lines step finish (opening t held.bytes d)) bytes _ _ _ c.answer_lines-ending.result
    (opening_drove step finish (opening t held.bytes d) c.in-Open.view bytes _ _ _ _ c.answer_lines-ending.result (rw c.in-Open.is at c.in_ok-view.ensures.opens t held d told kept defined) (c.answer_lines-ending.ensures.ran bytes given))

pub returns-in-Open-clause-some : goal.returns-in-Open-clause-some
returns-in-Open-clause-some g c = λ t held d told kept defined.
    some_drove step finish (opening t held.bytes d) c.in-Open.view _ _ _ c.answer_lines-ending.result (rw c.in-Open.is at c.in_ok-view.ensures.opens t held d told kept defined) c.answer_lines-ending.ensures.some

pub returns-in-Open-clause-whole : goal.returns-in-Open-clause-whole
returns-in-Open-clause-whole g c = λ bytes given.
    done_whole step finish (only_full (λ v. is_done v ≡ false) refl) c.in-Open.view bytes (g.S.Source.rest c.args.input.now) _ _ _ _ c.answer_lines-ending.result c.answer_lines-ending.ensures.ran c.answer_lines-ending.ensures.whole given

pub returns-in-Open-clause-can : goal.returns-in-Open-clause-can
returns-in-Open-clause-can g c = drove_can c.in-Open.view _ _ c.answer_lines-ending.result c.answer_lines-ending.ensures.some

pub returns-in-Open-clause-took : goal.returns-in-Open-clause-took
returns-in-Open-clause-took g c = λ t held bytes d told kept given defined.
    took_answering step finish (opening t held.bytes d) c.in-Open.view bytes _ _ _ _ _ c.answer_lines-ending.result (rw c.in-Open.is at c.in_ok-view.ensures.opens t held d told kept defined) (c.answer_lines-ending.ensures.took bytes given)

pub returns-in-Open-clause-enough : goal.returns-in-Open-clause-enough
returns-in-Open-clause-enough g c = λ t held bytes d told kept given defined.
    enough_answering step finish (opening t held.bytes d) c.in-Open.view bytes (g.S.Source.rest c.args.input.now) _ _ _ _ c.answer_lines-ending.result (rw c.in-Open.is at c.in_ok-view.ensures.opens t held d told kept defined) given c.answer_lines-ending.ensures.whole

pub returns-in-Open-clause-alone : goal.returns-in-Open-clause-alone
returns-in-Open-clause-alone g c = λ t held d told kept defined none. open_reads step finish (opening t held.bytes d) _ _ c.in-Open.view (rw c.in-Open.is at c.in_ok-view.ensures.opens t held d told kept defined) none

pub returns-in-Open-clause-within : goal.returns-in-Open-clause-within
returns-in-Open-clause-within g c = λ t held bytes d told kept given defined.
    drove_steps step limit (opening t held.bytes d) c.in-Open.view (lines_of bytes) _ _ _ _ _ (rw c.in-Open.is at c.in_ok-view.ensures.opens t held d told kept defined) c.in_ok-view.ensures.steps (c.answer_lines-ending.ensures.within bytes given)

pub returns-in-Open-clause-kept : goal.returns-in-Open-clause-kept
returns-in-Open-clause-kept g c = λ t held d es told kept defined first.
    let laws = g.met.D.Disk in
    let none = only_read g.D.Disk.state g.D.Disk.left_since es c.args.disk.now c.open.new.disk (laws.counts_now c.args.disk.now) (laws.only_now c.open.new.disk) c.in_ok-view.ensures.content c.in_ok-view.ensures.time first in
    opened_kept step note (log_of g.D.Disk.state g.D.Disk.left_since) es (g.S.Source.rest c.args.input.now) _ c.args.disk.now c.open.new.disk _ _ _ _ c.answer_lines-ending.result (opening t held.bytes d) c.in-Open.view
    (rw c.in-Open.is at c.in_ok-view.ensures.opens t held d told kept defined) none (c.answer_lines-ending.ensures.kept es none.kept)

pub returns-in-Open-clause-disk : goal.returns-in-Open-clause-disk
returns-in-Open-clause-disk g c = disk_later _ _ _ c.answer_lines-ending.result c.in_ok-view.ensures.steady c.answer_lines-ending.ensures.disk

pub returns-in-Ended-clause-ran : goal.returns-in-Ended-clause-ran
returns-in-Ended-clause-ran g c = λ t held bytes d told kept given defined.
    opening_ended step finish (opening t held.bytes d) bytes (g.S.Source.rest c.args.input.now) _ _ c.in-Ended.verdict (rw c.in-Ended.is at c.in_ok-view.ensures.opens t held d told kept defined)

pub returns-in-Ended-clause-some : goal.returns-in-Ended-clause-some
returns-in-Ended-clause-some g c = λ t held d told kept defined. some_ended step finish (opening t held.bytes d) _ _ c.in-Ended.verdict (rw c.in-Ended.is at c.in_ok-view.ensures.opens t held d told kept defined)

pub returns-in-Ended-clause-enough : goal.returns-in-Ended-clause-enough
returns-in-Ended-clause-enough g c = λ t held bytes d told kept given defined. ended_enough step finish (opening t held.bytes d) bytes _ _ _ _ c.in-Ended.verdict (rw c.in-Ended.is at c.in_ok-view.ensures.opens t held d told kept defined)

pub returns-in-Ended-clause-within : goal.returns-in-Ended-clause-within
returns-in-Ended-clause-within g c = λ t held bytes d told kept given defined. unspent step limit (opening t held.bytes d) (lines_of bytes) _ _ c.in_ok-view.ensures.steps

pub returns-in-Ended-clause-kept : goal.returns-in-Ended-clause-kept
returns-in-Ended-clause-kept g c = λ t held d es told kept defined first.
    let laws = g.met.D.Disk in
    ended_kept step note (log_of g.D.Disk.state g.D.Disk.left_since) (opening t held.bytes d) es (g.S.Source.rest c.args.input.now) _ c.args.disk.now c.open.new.disk _ _ c.in-Ended.verdict _ (rw c.in-Ended.is at c.in_ok-view.ensures.opens t held d told kept defined)
    (only_read g.D.Disk.state g.D.Disk.left_since es c.args.disk.now c.open.new.disk (laws.counts_now c.args.disk.now) (laws.only_now c.open.new.disk) c.in_ok-view.ensures.content c.in_ok-view.ensures.time first)

pub returns-in-HeldUp-clause-ran : goal.returns-in-HeldUp-clause-ran
returns-in-HeldUp-clause-ran g c = λ t held bytes d told kept given defined. inl (rw c.in-HeldUp.is at c.in_ok-view.ensures.opens t held d told kept defined)

pub returns-in-HeldUp-clause-some : goal.returns-in-HeldUp-clause-some
returns-in-HeldUp-clause-some g c = λ t held d told kept defined. some_held_up (by_lines step finish (opening t held.bytes d)) _ _ (rw c.in-HeldUp.is at c.in_ok-view.ensures.opens t held d told kept defined)

pub returns-in-HeldUp-clause-took : goal.returns-in-HeldUp-clause-took
returns-in-HeldUp-clause-took g c = λ t held bytes d told kept given defined. took_held_up (by_lines step finish (opening t held.bytes d)) bytes (g.S.Source.rest c.args.input.now) _ _ _ given

pub returns-in-HeldUp-clause-within : goal.returns-in-HeldUp-clause-within
returns-in-HeldUp-clause-within g c = λ t held bytes d told kept given defined. unspent step limit (opening t held.bytes d) (lines_of bytes) _ _ c.in_ok-view.ensures.steps

pub returns-in-HeldUp-clause-kept : goal.returns-in-HeldUp-clause-kept
returns-in-HeldUp-clause-kept g c = λ t held d es told kept defined first.
    let laws = g.met.D.Disk in
    held_up_kept step note (log_of g.D.Disk.state g.D.Disk.left_since) (opening t held.bytes d) es (g.S.Source.rest c.args.input.now) _ c.args.disk.now c.open.new.disk _ _
    (only_read g.D.Disk.state g.D.Disk.left_since es c.args.disk.now c.open.new.disk (laws.counts_now c.args.disk.now) (laws.only_now c.open.new.disk) c.in_ok-view.ensures.content c.in_ok-view.ensures.time first)

pub returns-in-HeldUp-clause-disk : goal.returns-in-HeldUp-clause-disk
returns-in-HeldUp-clause-disk g c = record { later = c.in_ok-view.ensures.steady; because = c.in_ok-view.ensures.failed (cc (c.in-HeldUp.is)) }
