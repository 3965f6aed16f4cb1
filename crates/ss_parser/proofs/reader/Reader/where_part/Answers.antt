use Rattle.std.proofs.Common.{inl, inr}
use Rattle.std.specs.Prelude.{option_map}
use Rattle.std.proofs.lemmas.Result.{err_from_is_err_and}
use Rattle.view_def.specs.RawConditions.{raw_of}
use Rattle.ss_parser.specs.Conditions.{any, unit}
use Rattle.ss_parser.specs.Views.{end, filtered, most_open}
use Rattle.ss_parser.proofs.Exits.{stops_with}
use Rattle.ss_parser.proofs.reader.Reader.where_part.Goals as goal

pub returns-in_err-condition : goal.returns-in_err-condition
returns-in_err-condition c =
    let p = err_from_is_err_and c.from_residual-in_err-condition.result c.from_residual-in_err-condition.ensures.1 in
    rw (p.1, p.2) (stops_with raw_of (option_map raw_of) (any (unit most_open)) (filtered most_open) c.args.self.now c.key.new.self c.any.new.self
    (λ deep s. inr (tt, c.key.new.self, c.in_ok-key.ensures, inl s)) c.in_err-condition.field-0.0 c.in_err-condition.ensures)

pub returns-in_err-end : goal.returns-in_err-end
returns-in_err-end c =
    let p = err_from_is_err_and c.from_residual-in_err-end.result c.from_residual-in_err-end.ensures.1 in
    rw (p.1, p.2) (stops_with (λ (x : Unit {0}). x) (option_map raw_of) end (filtered most_open) c.args.self.now c.any.new.self c.end.new.self
    (λ deep s. inr (tt, c.key.new.self, c.in_ok-key.ensures, inr (raw_of c.in_ok-condition.condition, c.any.new.self, c.in_ok-condition.ensures, inl s))) c.in_err-end.field-0.0 c.in_err-end.ensures)
