use Rattle.std.proofs.Common.{[], false, refl, ap, ◌∙◌, arith}
use Rattle.std.specs.Prelude.{Ok, Err}
use Rattle.std.proofs.lemmas.Result.{err_from_is_err_and}
use Rattle.tab_lines.specs.declared.lines.Next.TheVariants.{Line, End}
use Rattle.course.proofs.AnsweringLemmas.{steady_more, none_answered, one_more, some_idle, some_stops, some_halts, some_end, some_end_stops}
use Rattle.course.proofs.DrivingLemmas.{starts, none_ran, none_took, gave_out_took, line_stops_took, end_took, meet, gave_out, line_stops, line_ends, line_ends_all, line_stands, end_ran, end_all, none_seen, seen_more, no_line, fewer}
use Rattle.course.proofs.StepLemmas.{none_spent, spent, line_spent, spent_more}
use Rattle.course.proofs.KeepingLemmas.{keeping_starts, keeping_more, line_stops_kept, line_ends_kept, end_kept, stops_kept, gave_out_kept, disk_stops, disk_ends, disk_gave_out}
use Rattle.course.proofs.answering.answer_lines.Goals as goal

pub returns-in_err-lines-clause-ran : goal.returns-in_err-lines-clause-ran
returns-in_err-lines-clause-ran g c = λ bytes is.
    let p = err_from_is_err_and c.from_residual.result c.from_residual.ensures.1 in
    rw (p.1, p.2) (none_ran g.M.LineHandler.step g.M.LineHandler.finish c.args.machine.now bytes (g.S.Source.rest c.args.input.now) _)

pub lines-init : goal.lines-init
lines-init g c = record { stands = starts g.M.LineHandler.step c.args.machine.now _ _ _ c.in_ok-lines.ensures; answering = none_answered g.M.LineHandler.step g.M.LineHandler.finish c.args.machine.now _; soon = none_seen _ _ c.in_ok-lines.ensures; keeping = keeping_starts g.M.LineHandler.step g.M.LineHandler.note g.M.LineHandler.log c.args.machine.now _ _ _ _ c.in_ok-lines.ensures; ready = c.requires; disk = omega arith; steady = record { reads = omega arith; writes = omega arith; prints = omega arith }; input = omega arith; rises = omega arith; still = λ no. refl; spends = none_spent g.M.LineHandler.step g.M.LineHandler.limit c.args.machine.now _ _ _ c.in_ok-lines.ensures }

pub returns-in_err-line-clause-ran : goal.returns-in_err-line-clause-ran
returns-in_err-line-clause-ran g c = λ bytes is.
    let p = err_from_is_err_and c.from_residual-in_err-line.result c.from_residual-in_err-line.ensures.1 in
    let m = meet g.M.LineHandler.step g.M.LineHandler.finish _ bytes (Err c.in_err-line.field-0.0) _ _ _ _ _ _ _ _ _ _ c.lines.invariant.stands c.lines.invariant.soon c.in_err-line.ensures.reads c.in_err-line.ensures.next is in
    rw (p.1, p.2) (gave_out g.M.LineHandler.step g.M.LineHandler.finish _ bytes _ _ _ _ _ _ _ m)

pub lines-preserved : goal.lines-preserved
lines-preserved g c =
    record {
      stands = line_stands g.M.LineHandler.step g.M.LineHandler.finish _ _ c.in-Line.line _ _ _ _ _ _ _ _ _ _ _ c.lines.invariant.stands c.lines.invariant.soon (rw c.in-Line.is at c.in_ok-line.ensures.reads) (rw c.in-Line.is at c.in_ok-line.ensures.next) (rw c.in-None.is at c.in_ok-verdict.ensures.answered);
      answering = one_more g.M.LineHandler.step g.M.LineHandler.finish c.args.machine.now _ _ _ _ _ c.in-Line.line c.lines.invariant.answering (rw c.in-None.is at c.in_ok-verdict.ensures.answered);
      soon = seen_more c.in-Line.line _ _ _ _ c.lines.invariant.soon (rw c.in-Line.is at c.in_ok-line.ensures.reads);
      keeping = keeping_more g.M.LineHandler.step g.M.LineHandler.note g.M.LineHandler.log c.args.machine.now _ _ _ _ _ _ c.in-Line.line _ _ _ _ _ _ _ c.lines.invariant.keeping (rw c.in-Line.is at c.in_ok-line.ensures.reads) (rw c.in-Line.is at c.in_ok-line.ensures.next) (rw c.in-None.is at c.in_ok-verdict.ensures.answered) (rw c.in-None.is at c.in_ok-verdict.ensures.keeps);
      ready = c.in_ok-verdict.ensures.ready (ap Ok c.in-None.is);
      disk = omega (arith, c.lines.invariant.disk, c.in_ok-verdict.ensures.disk.later);
      steady = steady_more _ _ _ c.lines.invariant.steady c.in_ok-verdict.ensures.blames.steady;
      input = omega (arith, c.lines.invariant.input, c.in_ok-line.ensures.steady);
      rises = omega (arith, c.lines.invariant.rises, c.in_ok-verdict.ensures.rises);
      still = λ no. c.in_ok-verdict.ensures.still no ∙ c.lines.invariant.still no;
      spends = spent_more g.M.LineHandler.step g.M.LineHandler.limit c.args.machine.now _ c.in-Line.line _ _ _ _ _ _ _ _ _ _ _ c.lines.invariant.spends (rw c.in-Line.is at c.in_ok-line.ensures.reads) (rw c.in-Line.is at c.in_ok-line.ensures.next) (rw c.in-None.is at c.in_ok-verdict.ensures.answered) c.in_ok-verdict.ensures.within;
    }

pub lines-smaller : goal.lines-smaller
lines-smaller g c = fewer c.in-Line.line _ _ _ _ (rw c.in-Line.is at c.in_ok-line.ensures.reads) c.in_ok-line.ensures.most

pub returns-in_err-verdict-clause-ran : goal.returns-in_err-verdict-clause-ran
returns-in_err-verdict-clause-ran g c = λ bytes is.
    let p = err_from_is_err_and c.from_residual-in_err-verdict.result c.from_residual-in_err-verdict.ensures.1 in
    let m = meet g.M.LineHandler.step g.M.LineHandler.finish _ bytes (Ok (Line c.in-Line.line)) _ _ _ _ _ _ _ _ _ _ c.lines.invariant.stands c.lines.invariant.soon (rw c.in-Line.is at c.in_ok-line.ensures.reads) (rw c.in-Line.is at c.in_ok-line.ensures.next) is in
    rw (p.1, p.2) (line_stops g.M.LineHandler.step g.M.LineHandler.finish _ bytes c.in-Line.line _ _ _ _ c.answer.new.machine _ _ _ c.in_err-verdict.field-0.0 m c.in_err-verdict.ensures.answered)

pub returns-in-Some-clause-ran : goal.returns-in-Some-clause-ran
returns-in-Some-clause-ran g c = λ bytes is.
    let m = meet g.M.LineHandler.step g.M.LineHandler.finish _ bytes (Ok (Line c.in-Line.line)) _ _ _ _ _ _ _ _ _ _ c.lines.invariant.stands c.lines.invariant.soon (rw c.in-Line.is at c.in_ok-line.ensures.reads) (rw c.in-Line.is at c.in_ok-line.ensures.next) is in
    line_ends g.M.LineHandler.step g.M.LineHandler.finish _ bytes c.in-Line.line _ _ _ _ c.answer.new.machine _ _ _ c.in-Some.verdict m (rw c.in-Some.is at c.in_ok-verdict.ensures.answered)

pub returns-in-Some-clause-whole : goal.returns-in-Some-clause-whole
returns-in-Some-clause-whole g c = λ bytes is.
    let m = meet g.M.LineHandler.step g.M.LineHandler.finish _ bytes (Ok (Line c.in-Line.line)) _ _ _ _ _ _ _ _ _ _ c.lines.invariant.stands c.lines.invariant.soon (rw c.in-Line.is at c.in_ok-line.ensures.reads) (rw c.in-Line.is at c.in_ok-line.ensures.next) is in
    line_ends_all g.M.LineHandler.step g.M.LineHandler.finish _ bytes c.in-Line.line _ _ _ _ c.answer.new.machine _ _ _ _ c.in-Some.verdict m c.in_ok-line.ensures.most (rw c.in-Some.is at c.in_ok-verdict.ensures.answered)

pub returns-in_err-verdict-2-clause-ran : goal.returns-in_err-verdict-2-clause-ran
returns-in_err-verdict-2-clause-ran g c = λ bytes is.
    let p = err_from_is_err_and c.from_residual-in_err-verdict-2.result c.from_residual-in_err-verdict-2.ensures.1 in
    let e = no_line c.in_ok-line.field-0 c.in_default.not-Line in
    let m = meet g.M.LineHandler.step g.M.LineHandler.finish _ bytes (Ok End) _ _ _ _ _ _ _ _ _ _ c.lines.invariant.stands c.lines.invariant.soon (rw e at c.in_ok-line.ensures.reads) (rw e at c.in_ok-line.ensures.next) is in
    rw (p.1, p.2) (end_ran g.M.LineHandler.step g.M.LineHandler.finish _ bytes _ _ _ _ _ _ _ (Err c.in_err-verdict-2.field-0.0) m c.in_err-verdict-2.ensures.ended)

pub returns-clause-ran : goal.returns-clause-ran
returns-clause-ran g c = λ bytes is.
    let e = no_line c.in_ok-line.field-0 c.in_default.not-Line in
    let m = meet g.M.LineHandler.step g.M.LineHandler.finish _ bytes (Ok End) _ _ _ _ _ _ _ _ _ _ c.lines.invariant.stands c.lines.invariant.soon (rw e at c.in_ok-line.ensures.reads) (rw e at c.in_ok-line.ensures.next) is in
    end_ran g.M.LineHandler.step g.M.LineHandler.finish _ bytes _ _ _ _ _ _ _ (Ok c.in_ok-verdict-2.verdict) m c.in_ok-verdict-2.ensures.ended

pub returns-clause-whole : goal.returns-clause-whole
returns-clause-whole g c = λ bytes is.
    let e = no_line c.in_ok-line.field-0 c.in_default.not-Line in
    let m = meet g.M.LineHandler.step g.M.LineHandler.finish _ bytes (Ok End) _ _ _ _ _ _ _ _ _ _ c.lines.invariant.stands c.lines.invariant.soon (rw e at c.in_ok-line.ensures.reads) (rw e at c.in_ok-line.ensures.next) is in
    end_all g.M.LineHandler.step g.M.LineHandler.finish _ bytes _ _ _ _ _ _ _ m c.in_ok-line.ensures.most

pub returns-in_err-lines-clause-took : goal.returns-in_err-lines-clause-took
returns-in_err-lines-clause-took g c = λ bytes is.
    let p = err_from_is_err_and c.from_residual.result c.from_residual.ensures.1 in
    rw (p.1, p.2) (none_took g.M.LineHandler.step g.M.LineHandler.finish c.args.machine.now bytes (g.S.Source.rest c.args.input.now) _ _ is)

pub returns-in_err-line-clause-took : goal.returns-in_err-line-clause-took
returns-in_err-line-clause-took g c = λ bytes is.
    let p = err_from_is_err_and c.from_residual-in_err-line.result c.from_residual-in_err-line.ensures.1 in
    let m = meet g.M.LineHandler.step g.M.LineHandler.finish _ bytes (Err c.in_err-line.field-0.0) _ _ _ _ _ _ _ _ _ _ c.lines.invariant.stands c.lines.invariant.soon c.in_err-line.ensures.reads c.in_err-line.ensures.next is in
    rw (p.1, p.2) (gave_out_took g.M.LineHandler.step g.M.LineHandler.finish _ bytes _ _ _ _ _ _ _ _ m)

pub returns-in_err-verdict-clause-took : goal.returns-in_err-verdict-clause-took
returns-in_err-verdict-clause-took g c = λ bytes is.
    let p = err_from_is_err_and c.from_residual-in_err-verdict.result c.from_residual-in_err-verdict.ensures.1 in
    let m = meet g.M.LineHandler.step g.M.LineHandler.finish _ bytes (Ok (Line c.in-Line.line)) _ _ _ _ _ _ _ _ _ _ c.lines.invariant.stands c.lines.invariant.soon (rw c.in-Line.is at c.in_ok-line.ensures.reads) (rw c.in-Line.is at c.in_ok-line.ensures.next) is in
    rw (p.1, p.2) (line_stops_took g.M.LineHandler.step g.M.LineHandler.finish _ bytes c.in-Line.line _ _ _ _ c.answer.new.machine _ _ _ _ c.in_err-verdict.field-0.0 m c.in_ok-line.ensures.most c.in_err-verdict.ensures.answered)

pub returns-in_err-verdict-2-clause-took : goal.returns-in_err-verdict-2-clause-took
returns-in_err-verdict-2-clause-took g c = λ bytes is.
    let p = err_from_is_err_and c.from_residual-in_err-verdict-2.result c.from_residual-in_err-verdict-2.ensures.1 in
    let e = no_line c.in_ok-line.field-0 c.in_default.not-Line in
    let m = meet g.M.LineHandler.step g.M.LineHandler.finish _ bytes (Ok End) _ _ _ _ _ _ _ _ _ _ c.lines.invariant.stands c.lines.invariant.soon (rw e at c.in_ok-line.ensures.reads) (rw e at c.in_ok-line.ensures.next) is in
    rw (p.1, p.2) (end_took g.M.LineHandler.step g.M.LineHandler.finish _ bytes _ _ _ _ _ _ _ _ c.in_err-verdict-2.field-0.0 m c.in_ok-line.ensures.most c.in_err-verdict-2.ensures.ended)

pub returns-in_err-lines-clause-some : goal.returns-in_err-lines-clause-some
returns-in_err-lines-clause-some g c =
    let p = err_from_is_err_and c.from_residual.result c.from_residual.ensures.1 in
    rw p.1 (some_idle g.M.LineHandler.step g.M.LineHandler.finish c.args.machine.now _ _ c.args.machine.now p.0 (none_answered g.M.LineHandler.step g.M.LineHandler.finish c.args.machine.now _))

pub returns-in_err-line-clause-some : goal.returns-in_err-line-clause-some
returns-in_err-line-clause-some g c =
    let p = err_from_is_err_and c.from_residual-in_err-line.result c.from_residual-in_err-line.ensures.1 in
    rw p.1 (some_idle g.M.LineHandler.step g.M.LineHandler.finish c.args.machine.now _ _ c.lines.machine p.0 c.lines.invariant.answering)

pub returns-in_err-verdict-clause-some : goal.returns-in_err-verdict-clause-some
returns-in_err-verdict-clause-some g c =
    let p = err_from_is_err_and c.from_residual-in_err-verdict.result c.from_residual-in_err-verdict.ensures.1 in
    rw p.1 (some_stops g.M.LineHandler.step g.M.LineHandler.finish c.args.machine.now _ _ _ c.lines.machine c.answer.new.machine c.in-Line.line c.in_err-verdict.field-0.0 p.0 c.lines.invariant.answering c.in_err-verdict.ensures.answered)

pub returns-in-Some-clause-some : goal.returns-in-Some-clause-some
returns-in-Some-clause-some g c = some_halts g.M.LineHandler.step g.M.LineHandler.finish c.args.machine.now _ _ _ c.lines.machine c.answer.new.machine c.in-Line.line c.in-Some.verdict c.lines.invariant.answering (rw c.in-Some.is at c.in_ok-verdict.ensures.answered)

pub returns-in_err-verdict-2-clause-some : goal.returns-in_err-verdict-2-clause-some
returns-in_err-verdict-2-clause-some g c =
    let p = err_from_is_err_and c.from_residual-in_err-verdict-2.result c.from_residual-in_err-verdict-2.ensures.1 in
    rw p.1 (some_end_stops g.M.LineHandler.step g.M.LineHandler.finish c.args.machine.now _ _ _ c.lines.machine c.in_err-verdict-2.field-0.0 p.0 c.lines.invariant.answering c.in_err-verdict-2.ensures.ended)

pub returns-clause-some : goal.returns-clause-some
returns-clause-some g c = some_end g.M.LineHandler.step g.M.LineHandler.finish c.args.machine.now _ _ _ c.lines.machine c.in_ok-verdict-2.verdict c.lines.invariant.answering c.in_ok-verdict-2.ensures.ended

pub returns-in_err-lines-clause-within : goal.returns-in_err-lines-clause-within
returns-in_err-lines-clause-within g c = λ bytes is n bound. omega arith

pub returns-in_err-line-clause-within : goal.returns-in_err-line-clause-within
returns-in_err-line-clause-within g c = λ bytes is. spent g.M.LineHandler.step g.M.LineHandler.limit c.args.machine.now _ _ _ _ _ _ bytes c.lines.invariant.spends is

pub returns-in_err-verdict-clause-within : goal.returns-in_err-verdict-clause-within
returns-in_err-verdict-clause-within g c = λ bytes is.
    line_spent g.M.LineHandler.step g.M.LineHandler.limit c.args.machine.now _ c.in-Line.line _ _ _ _ _ _ _ _ bytes c.lines.invariant.spends (rw c.in-Line.is at c.in_ok-line.ensures.reads) (rw c.in-Line.is at c.in_ok-line.ensures.next) c.in_err-verdict.ensures.within is

pub returns-in-Some-clause-within : goal.returns-in-Some-clause-within
returns-in-Some-clause-within g c = λ bytes is.
    line_spent g.M.LineHandler.step g.M.LineHandler.limit c.args.machine.now _ c.in-Line.line _ _ _ _ _ _ _ _ bytes c.lines.invariant.spends (rw c.in-Line.is at c.in_ok-line.ensures.reads) (rw c.in-Line.is at c.in_ok-line.ensures.next) c.in_ok-verdict.ensures.within is

pub returns-in_err-verdict-2-clause-within : goal.returns-in_err-verdict-2-clause-within
returns-in_err-verdict-2-clause-within g c = λ bytes is n bound.
    omega (arith, c.in_err-verdict-2.ensures.steps, spent g.M.LineHandler.step g.M.LineHandler.limit c.args.machine.now _ _ _ _ _ _ bytes c.lines.invariant.spends is n bound)

pub returns-clause-within : goal.returns-clause-within
returns-clause-within g c = λ bytes is n bound.
    omega (arith, c.in_ok-verdict-2.ensures.steps, spent g.M.LineHandler.step g.M.LineHandler.limit c.args.machine.now _ _ _ _ _ _ bytes c.lines.invariant.spends is n bound)

pub returns-in_err-lines-clause-kept : goal.returns-in_err-lines-clause-kept
returns-in_err-lines-clause-kept g c =
    let p = err_from_is_err_and c.from_residual.result c.from_residual.ensures.1 in
    rw (p.1, p.2) (stops_kept g.M.LineHandler.step g.M.LineHandler.note g.M.LineHandler.log c.args.machine.now _ _ _ _ _ _ _ _ _ _ _ (keeping_starts g.M.LineHandler.step g.M.LineHandler.note g.M.LineHandler.log c.args.machine.now (g.S.Source.rest c.args.input.now) c.args.disk.now _ (record { taken = 0; left = []; ended = false }) refl))

pub returns-in_err-line-clause-kept : goal.returns-in_err-line-clause-kept
returns-in_err-line-clause-kept g c =
    let p = err_from_is_err_and c.from_residual-in_err-line.result c.from_residual-in_err-line.ensures.1 in
    rw (p.1, p.2) (gave_out_kept g.M.LineHandler.step g.M.LineHandler.note g.M.LineHandler.log c.args.machine.now _ _ _ _ _ _ _ _ _ _ c.in_err-line.field-0.0 c.lines.invariant.keeping c.in_err-line.ensures.reads)

pub returns-in_err-verdict-clause-kept : goal.returns-in_err-verdict-clause-kept
returns-in_err-verdict-clause-kept g c =
    let p = err_from_is_err_and c.from_residual-in_err-verdict.result c.from_residual-in_err-verdict.ensures.1 in
    rw (p.1, p.2) (line_stops_kept g.M.LineHandler.step g.M.LineHandler.note g.M.LineHandler.log c.args.machine.now _ _ _ _ _ _ c.in-Line.line _ _ _ _ _ _ c.answer.new.machine c.in_err-verdict.field-0.0 c.lines.invariant.keeping (rw c.in-Line.is at c.in_ok-line.ensures.reads) (rw c.in-Line.is at c.in_ok-line.ensures.next) c.in_err-verdict.ensures.keeps)

pub returns-in-Some-clause-kept : goal.returns-in-Some-clause-kept
returns-in-Some-clause-kept g c = line_ends_kept g.M.LineHandler.step g.M.LineHandler.note g.M.LineHandler.log c.args.machine.now _ _ _ _ _ _ c.in-Line.line _ _ _ _ _ _ c.answer.new.machine c.in-Some.verdict c.lines.invariant.keeping (rw c.in-Line.is at c.in_ok-line.ensures.reads) (rw c.in-Line.is at c.in_ok-line.ensures.next) (rw c.in-Some.is at c.in_ok-verdict.ensures.answered) (rw c.in-Some.is at c.in_ok-verdict.ensures.keeps)

pub returns-in_err-verdict-2-clause-kept : goal.returns-in_err-verdict-2-clause-kept
returns-in_err-verdict-2-clause-kept g c =
    let p = err_from_is_err_and c.from_residual-in_err-verdict-2.result c.from_residual-in_err-verdict-2.ensures.1 in
    let e = no_line c.in_ok-line.field-0 c.in_default.not-Line in
    rw (p.1, p.2) (stops_kept g.M.LineHandler.step g.M.LineHandler.note g.M.LineHandler.log c.args.machine.now _ _ _ _ _ _ _ _ _ _ c.in_err-verdict-2.field-0.0 c.lines.invariant.keeping)

pub returns-clause-kept : goal.returns-clause-kept
returns-clause-kept g c =
    let e = no_line c.in_ok-line.field-0 c.in_default.not-Line in
    end_kept g.M.LineHandler.step g.M.LineHandler.note g.M.LineHandler.log c.args.machine.now _ _ _ _ _ _ _ _ _ _ _ c.in_ok-verdict-2.verdict c.lines.invariant.keeping (rw e at c.in_ok-line.ensures.reads) (rw e at c.in_ok-line.ensures.next)

pub returns-in_err-verdict-clause-disk : goal.returns-in_err-verdict-clause-disk
returns-in_err-verdict-clause-disk g c =
    let p = err_from_is_err_and c.from_residual-in_err-verdict.result c.from_residual-in_err-verdict.ensures.1 in
    rw (p.1, p.2) (disk_stops _ _ _ c.in_err-verdict.field-0.0 c.lines.invariant.disk c.in_err-verdict.ensures.disk)

pub returns-in_err-line-clause-disk : goal.returns-in_err-line-clause-disk
returns-in_err-line-clause-disk g c =
    let p = err_from_is_err_and c.from_residual-in_err-line.result c.from_residual-in_err-line.ensures.1 in
    rw (p.1, p.2) (disk_gave_out _ _ c.in_err-line.field-0.0 c.lines.invariant.disk)

pub returns-in_err-lines-clause-disk : goal.returns-in_err-lines-clause-disk
returns-in_err-lines-clause-disk g c =
    let p = err_from_is_err_and c.from_residual.result c.from_residual.ensures.1 in
    rw (p.1, p.2) (record { later = omega arith; because = tt })

pub returns-in-Some-clause-disk : goal.returns-in-Some-clause-disk
returns-in-Some-clause-disk g c = disk_ends _ _ _ c.in-Some.verdict _ c.lines.invariant.disk c.in_ok-verdict.ensures.disk

pub returns-in_err-verdict-2-clause-disk : goal.returns-in_err-verdict-2-clause-disk
returns-in_err-verdict-2-clause-disk g c =
    let p = err_from_is_err_and c.from_residual-in_err-verdict-2.result c.from_residual-in_err-verdict-2.ensures.1 in
    rw (p.1, p.2) (record { later = c.lines.invariant.disk; because = tt })

pub returns-clause-disk : goal.returns-clause-disk
returns-clause-disk g c = record { later = c.lines.invariant.disk; because = tt }
