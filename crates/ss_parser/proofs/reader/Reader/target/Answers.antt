use Rattle.std.proofs.Common.{Global, vec_items, inl, inr}
use Rattle.std.proofs.lemmas.Result.{err_from_is_err_and}
use Rattle.view_def.specs.declared.written.Name.{Name}
use Rattle.ss_parser.specs.Views.{columns, target}
use Rattle.ss_parser.specs.Heads.{head_in}
use Rattle.ss_parser.proofs.Exits.{stops_with}
use Rattle.ss_parser.proofs.reader.Reader.target.Goals as goal

pub returns-in_err-columns : goal.returns-in_err-columns
returns-in_err-columns c =
    let p = err_from_is_err_and c.from_residual-in_err-columns.result c.from_residual-in_err-columns.ensures.1 in
    rw (p.1, p.2) (stops_with (vec_items {X = Name} {Z = Global}) head_in columns target c.args.self.now c.name-2.new.self c.columns.new.self
    (λ deep s. inr (c.in_ok-view_db.view_db, c.name.new.self, c.in_ok-view_db.ensures, inr (tt, c.sign.new.self, c.in_ok-sign.ensures, inr (c.in_ok-label.label, c.name-2.new.self, c.in_ok-label.ensures, inl s)))) c.in_err-columns.field-0.0 c.in_err-columns.ensures)
