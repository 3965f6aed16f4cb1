use Rattle.std.proofs.lemmas.Result.{err_from_is_err_and}
use Rattle.outside.specs.Effects.{world_of}
use Rattle.tab_lines.specs.Lines.{lines_of}
use Rattle.course.proofs.KeepingLemmas.{never_held_up}
use Rattle.view_stages.specs.Opening.{opening}
use Rattle.opened_view.specs.Steps.{starting}
use Rattle.opened_view.proofs.LimitLemmas.{unspent}
use Rattle.opened_view.proofs.MaintainLemmas.{drove_whole}
use Rattle.feed_answers.specs.Answers.{step, finish, at_first}
use Rattle.feed_answers.specs.Limits.{limit}
use Rattle.feed_answers.proofs.FeedLemmas.{goes, fed_drove, fed_some, fed_took, fed_enough, fed_reads, fed_within, fed_ended, some_fed, enough_fed, fed_stopped, some_fed_stopped, drove_can}
use Rattle.feed_answers.proofs.feeding.feed.Goals as goal

pub returns-in_err-view-clause-ran : goal.returns-in_err-view-clause-ran
returns-in_err-view-clause-ran g c = λ t bytes d told given defined.
    let p = err_from_is_err_and c.from_residual.result c.from_residual.ensures.1 in
    rw (p.1, p.2) (fed_stopped (opening t d) (world_of (g.F.Folders.state c.args.store.now) (g.K.Sink.state c.args.output.now)) (world_of (g.F.Folders.state c.open.new.store) (g.K.Sink.state c.open.new.output)) bytes (g.S.Source.rest c.args.input.now) c.in_err-view.field-0.0 (c.in_err-view.ensures.opens t d told defined))

pub returns-in_err-view-clause-some : goal.returns-in_err-view-clause-some
returns-in_err-view-clause-some g c = λ t d told defined.
    let p = err_from_is_err_and c.from_residual.result c.from_residual.ensures.1 in
    rw (p.1, p.2) (some_fed_stopped (opening t d) (world_of (g.F.Folders.state c.args.store.now) (g.K.Sink.state c.args.output.now)) (world_of (g.F.Folders.state c.open.new.store) (g.K.Sink.state c.open.new.output)) c.in_err-view.field-0.0 (c.in_err-view.ensures.opens t d told defined))

pub returns-in_err-view-clause-within : goal.returns-in_err-view-clause-within
returns-in_err-view-clause-within g c = λ t bytes d told given defined. unspent step limit (starting at_first (opening t d)) (lines_of bytes) _ _ c.in_err-view.ensures.steps

pub returns-in-Open-clause-ran : goal.returns-in-Open-clause-ran
returns-in-Open-clause-ran g c = λ t bytes d told given defined.
    fed_drove (opening t d) c.in-Open.view c.of-fed.result _ _ (rw c.in-Open.is at c.in_ok-view.ensures.opens t d told defined) c.of-fed.ensures bytes _ _ c.answer_lines-ending.result (c.answer_lines-ending.ensures.ran bytes given)

pub returns-in-Open-clause-some : goal.returns-in-Open-clause-some
returns-in-Open-clause-some g c = λ t d told defined.
    fed_some (opening t d) c.in-Open.view c.of-fed.result _ _ (rw c.in-Open.is at c.in_ok-view.ensures.opens t d told defined) c.of-fed.ensures _ c.answer_lines-ending.result c.answer_lines-ending.ensures.some

pub returns-in-Open-clause-whole : goal.returns-in-Open-clause-whole
returns-in-Open-clause-whole g c = λ bytes given. drove_whole step finish goes c.of-fed.result bytes (g.S.Source.rest c.args.input.now) _ _ c.answer_lines-ending.result c.answer_lines-ending.ensures.whole given

pub returns-in-Open-clause-can : goal.returns-in-Open-clause-can
returns-in-Open-clause-can g c = drove_can c.of-fed.result _ _ c.answer_lines-ending.result c.answer_lines-ending.ensures.some (never_held_up _ _ _ c.answer_lines-ending.ensures.disk)

pub returns-in-Open-clause-took : goal.returns-in-Open-clause-took
returns-in-Open-clause-took g c = λ t bytes d told given defined.
    fed_took (opening t d) c.in-Open.view c.of-fed.result _ _ (rw c.in-Open.is at c.in_ok-view.ensures.opens t d told defined) c.of-fed.ensures bytes _ _ _ c.answer_lines-ending.result (c.answer_lines-ending.ensures.took bytes given)

pub returns-in-Open-clause-enough : goal.returns-in-Open-clause-enough
returns-in-Open-clause-enough g c = λ t bytes d told given defined.
    fed_enough (opening t d) c.in-Open.view c.of-fed.result _ _ (rw c.in-Open.is at c.in_ok-view.ensures.opens t d told defined) c.of-fed.ensures bytes (g.S.Source.rest c.args.input.now) _ _ c.answer_lines-ending.result given c.answer_lines-ending.ensures.whole

pub returns-in-Open-clause-alone : goal.returns-in-Open-clause-alone
returns-in-Open-clause-alone g c = λ t d told defined none. fed_reads (opening t d) c.in-Open.view c.of-fed.result _ _ (rw c.in-Open.is at c.in_ok-view.ensures.opens t d told defined) c.of-fed.ensures none

pub returns-in-Open-clause-within : goal.returns-in-Open-clause-within
returns-in-Open-clause-within g c = λ t bytes d told given defined.
    fed_within (opening t d) c.in-Open.view c.of-fed.result _ _ (rw c.in-Open.is at c.in_ok-view.ensures.opens t d told defined) c.of-fed.ensures (lines_of bytes) _ _ _ c.in_ok-view.ensures.steps (c.answer_lines-ending.ensures.within bytes given)

pub returns-in-Ended-clause-ran : goal.returns-in-Ended-clause-ran
returns-in-Ended-clause-ran g c = λ t bytes d told given defined. fed_ended (opening t d) _ _ bytes (g.S.Source.rest c.args.input.now) c.in-Ended.verdict (rw c.in-Ended.is at c.in_ok-view.ensures.opens t d told defined)

pub returns-in-Ended-clause-some : goal.returns-in-Ended-clause-some
returns-in-Ended-clause-some g c = λ t d told defined. some_fed (opening t d) _ _ c.in-Ended.verdict (rw c.in-Ended.is at c.in_ok-view.ensures.opens t d told defined)

pub returns-in-Ended-clause-enough : goal.returns-in-Ended-clause-enough
returns-in-Ended-clause-enough g c = λ t bytes d told given defined. enough_fed (opening t d) _ _ bytes _ _ c.in-Ended.verdict (rw c.in-Ended.is at c.in_ok-view.ensures.opens t d told defined)

pub returns-in-Ended-clause-within : goal.returns-in-Ended-clause-within
returns-in-Ended-clause-within g c = λ t bytes d told given defined. unspent step limit (starting at_first (opening t d)) (lines_of bytes) _ _ c.in_ok-view.ensures.steps
