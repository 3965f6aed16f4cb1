use Rattle.std.proofs.Common.{inl, inr}
use Rattle.std.specs.Prelude.{codes}
use Rattle.std.proofs.lemmas.Result.{err_from_is_err_and}
use Rattle.ss_parser.specs.Terms.{key}
use Rattle.ss_parser.specs.Views.{target, header}
use Rattle.ss_parser.specs.Heads.{head_in}
use Rattle.ss_parser.proofs.Exits.{stops_with}
use Rattle.ss_parser.proofs.reader.Reader.header.Goals as goal

pub returns-in_err-header : goal.returns-in_err-header
returns-in_err-header c =
    let p = err_from_is_err_and c.from_residual-in_err-header.result c.from_residual-in_err-header.ensures.1 in
    rw (p.1, p.2) (stops_with head_in head_in target header c.args.self.now c.key-2.new.self c.target.new.self
    (λ deep s. inr (tt, c.key.new.self, c.in_ok-key.ensures, inr (tt, c.key-2.new.self, c.in_ok-key-2.ensures, inl s))) c.in_err-header.field-0.0 c.in_err-header.ensures)

pub returns-in_err-key-3 : goal.returns-in_err-key-3
returns-in_err-key-3 c =
    let p = err_from_is_err_and c.from_residual-in_err-key-3.result c.from_residual-in_err-key-3.ensures.1 in
    rw (p.1, p.2) (stops_with (λ (x : Unit {0}). x) head_in (key (codes "as")) header c.args.self.now c.target.new.self c.key-3.new.self
    (λ deep s. inr (tt, c.key.new.self, c.in_ok-key.ensures, inr (tt, c.key-2.new.self, c.in_ok-key-2.ensures, inr (head_in c.in_ok-header.header, c.target.new.self, c.in_ok-header.ensures, inl s)))) c.in_err-key-3.field-0.0 c.in_err-key-3.ensures)
