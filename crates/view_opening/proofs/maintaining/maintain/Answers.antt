use Rattle.std.proofs.lemmas.Result.{err_from_is_err_and}
use Rattle.outside.specs.Effects.{world_of}
use Rattle.tab_lines.specs.Lines.{lines_of}
use Rattle.course.proofs.KeepingLemmas.{never_held_up}
use Rattle.view_stages.specs.Opening.{opening}
use Rattle.opened_view.specs.Answers.{step, finish}
use Rattle.opened_view.specs.Limits.{limit}
use Rattle.opened_view.proofs.LimitLemmas.{unspent, drove_steps}
use Rattle.opened_view.proofs.MaintainLemmas.{opening_stopped, drove_whole, drove_can, took_answering, enough_answering, open_reads, goes}
use Rattle.view_opening.proofs.maintaining.maintain.Goals as goal

pub returns-in_err-view-clause-ran : goal.returns-in_err-view-clause-ran
returns-in_err-view-clause-ran g c = λ t bytes d told given defined.
    let p = err_from_is_err_and c.from_residual.result c.from_residual.ensures.1 in
    rw (p.1, p.2) (opening_stopped step finish (opening t d) bytes (g.S.Source.rest c.args.input.now) (world_of (g.F.Folders.state c.args.store.now) (g.K.Sink.state c.args.output.now)) (world_of (g.F.Folders.state c.open.new.store) (g.K.Sink.state c.open.new.output)) c.in_err-view.field-0.0 (c.in_err-view.ensures.opens t d told defined))

pub returns-in-Open-clause-whole : goal.returns-in-Open-clause-whole
returns-in-Open-clause-whole g c = λ bytes given. drove_whole step finish goes c.in-Open.view bytes (g.S.Source.rest c.args.input.now) _ _ c.answer_lines-ending.result c.answer_lines-ending.ensures.whole given

pub returns-in-Open-clause-can : goal.returns-in-Open-clause-can
returns-in-Open-clause-can g c = drove_can c.in-Open.view _ _ c.answer_lines-ending.result c.answer_lines-ending.ensures.some (never_held_up _ _ _ c.answer_lines-ending.ensures.disk)

pub returns-in-Open-clause-took : goal.returns-in-Open-clause-took
returns-in-Open-clause-took g c = λ t bytes d told given defined.
    took_answering step finish (opening t d) c.in-Open.view bytes _ _ _ _ _ c.answer_lines-ending.result (rw c.in-Open.is at c.in_ok-view.ensures.opens t d told defined) (c.answer_lines-ending.ensures.took bytes given)

pub returns-in-Open-clause-enough : goal.returns-in-Open-clause-enough
returns-in-Open-clause-enough g c = λ t bytes d told given defined.
    enough_answering step finish (opening t d) c.in-Open.view bytes (g.S.Source.rest c.args.input.now) _ _ _ _ c.answer_lines-ending.result (rw c.in-Open.is at c.in_ok-view.ensures.opens t d told defined) given c.answer_lines-ending.ensures.whole

pub returns-in-Open-clause-alone : goal.returns-in-Open-clause-alone
returns-in-Open-clause-alone g c = λ t d told defined none. open_reads step finish (opening t d) _ _ c.in-Open.view (rw c.in-Open.is at c.in_ok-view.ensures.opens t d told defined) none

pub returns-in-Open-clause-within : goal.returns-in-Open-clause-within
returns-in-Open-clause-within g c = λ t bytes d told given defined.
    drove_steps step limit (opening t d) c.in-Open.view (lines_of bytes) _ _ _ _ _ (rw c.in-Open.is at c.in_ok-view.ensures.opens t d told defined) c.in_ok-view.ensures.steps (c.answer_lines-ending.ensures.within bytes given)

pub returns-in-Ended-clause-within : goal.returns-in-Ended-clause-within
returns-in-Ended-clause-within g c = λ t bytes d told given defined. unspent step limit (opening t d) (lines_of bytes) _ _ c.in_ok-view.ensures.steps

pub returns-in_err-view-clause-within : goal.returns-in_err-view-clause-within
returns-in_err-view-clause-within g c = λ t bytes d told given defined. unspent step limit (opening t d) (lines_of bytes) _ _ c.in_err-view.ensures.steps
