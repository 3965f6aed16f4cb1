use Rattle.std.proofs.Common.{inl, inr}
use Rattle.std.proofs.lemmas.Result.{err_from_is_err_and}
use Rattle.view_def.specs.declared.written.Op.{Op}
use Rattle.view_def.specs.declared.written.RawTerm.{RawTerm}
use Rattle.view_def.specs.RawConditions.{raw_of}
use Rattle.ss_parser.specs.Terms.{a_term}
use Rattle.ss_parser.specs.Conditions.{operator, comparison}
use Rattle.ss_parser.proofs.Exits.{stops_with}
use Rattle.ss_parser.proofs.reader.Reader.comparison.Goals as goal

pub returns-in_err-op : goal.returns-in_err-op
returns-in_err-op c =
    let p = err_from_is_err_and c.from_residual-in_err-op.result c.from_residual-in_err-op.ensures.1 in
    rw (p.1, p.2) (stops_with (λ (o : Op). o) raw_of operator comparison c.args.self.now c.term.new.self c.operator.new.self
    (λ deep s. inr (c.in_ok-left.left, c.term.new.self, c.in_ok-left.ensures, inl s)) c.in_err-op.field-0.0 c.in_err-op.ensures)

pub returns-in_err-right : goal.returns-in_err-right
returns-in_err-right c =
    let p = err_from_is_err_and c.from_residual-in_err-right.result c.from_residual-in_err-right.ensures.1 in
    rw (p.1, p.2) (stops_with (λ (t : RawTerm). t) raw_of a_term comparison c.args.self.now c.operator.new.self c.term-2.new.self
    (λ deep s. inr (c.in_ok-left.left, c.term.new.self, c.in_ok-left.ensures, inr (c.in_ok-op.op, c.operator.new.self, c.in_ok-op.ensures, inl s))) c.in_err-right.field-0.0 c.in_err-right.ensures)
