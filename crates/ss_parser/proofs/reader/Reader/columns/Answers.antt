use Rattle.std.proofs.Common.{Global, vec_items, inl, inr}
use Rattle.std.specs.Prelude.{codes}
use Rattle.std.proofs.lemmas.Result.{err_from_is_err_and}
use Rattle.view_def.specs.declared.written.Name.{Name}
use Rattle.ss_parser.specs.Terms.{sign}
use Rattle.ss_parser.specs.Views.{columns}
use Rattle.ss_parser.proofs.Exits.{stops_with}
use Rattle.ss_parser.proofs.reader.Reader.columns.Goals as goal

pub returns-in_err-sign-2 : goal.returns-in_err-sign-2
returns-in_err-sign-2 c =
    let p = err_from_is_err_and c.from_residual-in_err-sign-2.result c.from_residual-in_err-sign-2.ensures.1 in
    rw (p.1, p.2) (stops_with (λ (x : Unit {0}). x) (vec_items {X = Name} {Z = Global}) (sign (codes ")")) columns c.args.self.now c.names.new.self c.sign-2.new.self
    (λ deep s. inr (tt, c.sign.new.self, c.in_ok-sign.ensures, inr (c.in_ok-columns.columns.items, c.names.new.self, c.in_ok-columns.ensures, inl s))) c.in_err-sign-2.field-0.0 c.in_err-sign-2.ensures)
