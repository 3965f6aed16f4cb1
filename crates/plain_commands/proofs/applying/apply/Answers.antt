use Rattle.std.proofs.lemmas.Result.{err_from_is_err_and}
use Rattle.outside.specs.Effects.{world_of}
use Rattle.course.proofs.KeepingLemmas.{never_held_up}
use Rattle.plain_commands.specs.Applies.{apply_opening}
use Rattle.plain_commands.proofs.ApplyLemmas.{opening_stopped, drove_whole, drove_can, took_applying, enough_applying, open_reads}
use Rattle.plain_commands.proofs.applying.apply.Goals as goal

pub returns-in_err-tables-clause-ran : goal.returns-in_err-tables-clause-ran
returns-in_err-tables-clause-ran g c = λ t bytes d told given defined.
    let p = err_from_is_err_and c.from_residual.result c.from_residual.ensures.1 in
    rw (p.1, p.2) (opening_stopped (apply_opening t d) bytes (g.S.Source.rest c.args.input.now) (world_of (g.F.Folders.state c.args.store.now) (g.K.Sink.state c.args.output.now)) (world_of (g.F.Folders.state c.open.new.store) (g.K.Sink.state c.open.new.output)) c.in_err-tables.field-0.0 (c.in_err-tables.ensures.opens t d told defined))

pub returns-in-Open-clause-whole : goal.returns-in-Open-clause-whole
returns-in-Open-clause-whole g c = λ bytes given. drove_whole c.in-Open.tables bytes (g.S.Source.rest c.args.input.now) _ _ _ _ c.answer_lines.result c.answer_lines.ensures.whole (c.answer_lines.ensures.ran bytes given) given

pub returns-in-Open-clause-can : goal.returns-in-Open-clause-can
returns-in-Open-clause-can g c = drove_can c.in-Open.tables _ _ c.answer_lines.result c.answer_lines.ensures.some (never_held_up _ _ _ c.answer_lines.ensures.disk)

pub returns-in-Open-clause-took : goal.returns-in-Open-clause-took
returns-in-Open-clause-took g c = λ t bytes d told given defined.
    took_applying (apply_opening t d) c.in-Open.tables bytes _ _ _ _ _ c.answer_lines.result (rw c.in-Open.is at c.in_ok-tables.ensures.opens t d told defined) (c.answer_lines.ensures.took bytes given)

pub returns-in-Open-clause-enough : goal.returns-in-Open-clause-enough
returns-in-Open-clause-enough g c = λ t bytes d told given defined.
    enough_applying (apply_opening t d) c.in-Open.tables bytes (g.S.Source.rest c.args.input.now) _ _ _ _ c.answer_lines.result (rw c.in-Open.is at c.in_ok-tables.ensures.opens t d told defined) given c.answer_lines.ensures.whole

pub returns-in-Open-clause-alone : goal.returns-in-Open-clause-alone
returns-in-Open-clause-alone g c = λ t d told defined none. open_reads (apply_opening t d) _ _ c.in-Open.tables (rw c.in-Open.is at c.in_ok-tables.ensures.opens t d told defined) none
