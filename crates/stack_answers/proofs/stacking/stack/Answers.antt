use Rattle.std.proofs.lemmas.Result.{err_from_is_err_and}
use Rattle.outside.specs.Effects.{world_of}
use Rattle.course.proofs.KeepingLemmas.{never_held_up}
use Rattle.stack_answers.specs.Opening.{opening}
use Rattle.stack_answers.specs.Answers.{step, finish}
use Rattle.opened_view.proofs.MaintainLemmas.{opening_stopped, drove_whole, took_answering, enough_answering, open_reads}
use Rattle.stack_answers.proofs.StackingLemmas.{goes, drove_can}
use Rattle.stack_answers.proofs.stacking.stack.Goals as goal

pub returns-in_err-stack-clause-ran : goal.returns-in_err-stack-clause-ran
returns-in_err-stack-clause-ran g c = λ t bytes ds told given defined.
    let p = err_from_is_err_and c.from_residual.result c.from_residual.ensures.1 in
    rw (p.1, p.2) (opening_stopped step finish (opening t ds) bytes (g.S.Source.rest c.args.input.now) (world_of (g.F.Folders.state c.args.store.now) (g.K.Sink.state c.args.output.now)) (world_of (g.F.Folders.state c.open.new.store) (g.K.Sink.state c.open.new.output)) c.in_err-stack.field-0.0 (c.in_err-stack.ensures.opens t ds told defined))

pub returns-in-Open-clause-whole : goal.returns-in-Open-clause-whole
returns-in-Open-clause-whole g c = λ bytes given. drove_whole step finish goes c.in-Open.stack bytes (g.S.Source.rest c.args.input.now) _ _ c.answer_lines-ending.result c.answer_lines-ending.ensures.whole given

pub returns-in-Open-clause-can : goal.returns-in-Open-clause-can
returns-in-Open-clause-can g c = drove_can c.in-Open.stack _ _ c.answer_lines-ending.result c.answer_lines-ending.ensures.some (never_held_up _ _ _ c.answer_lines-ending.ensures.disk)

pub returns-in-Open-clause-took : goal.returns-in-Open-clause-took
returns-in-Open-clause-took g c = λ t bytes ds told given defined.
    took_answering step finish (opening t ds) c.in-Open.stack bytes _ _ _ _ _ c.answer_lines-ending.result (rw c.in-Open.is at c.in_ok-stack.ensures.opens t ds told defined) (c.answer_lines-ending.ensures.took bytes given)

pub returns-in-Open-clause-enough : goal.returns-in-Open-clause-enough
returns-in-Open-clause-enough g c = λ t bytes ds told given defined.
    enough_answering step finish (opening t ds) c.in-Open.stack bytes (g.S.Source.rest c.args.input.now) _ _ _ _ c.answer_lines-ending.result (rw c.in-Open.is at c.in_ok-stack.ensures.opens t ds told defined) given c.answer_lines-ending.ensures.whole

pub returns-in-Open-clause-alone : goal.returns-in-Open-clause-alone
returns-in-Open-clause-alone g c = λ t ds told defined none. open_reads step finish (opening t ds) _ _ c.in-Open.stack (rw c.in-Open.is at c.in_ok-stack.ensures.opens t ds told defined) none
