use Rattle.std.proofs.Common.{Global, vec_items, inl, inr}
use Rattle.std.specs.Prelude.{option_map}
use Rattle.std.proofs.lemmas.Result.{err_from_is_err_and}
use Rattle.view_def.specs.declared.written.RawTerm.{RawTerm}
use Rattle.view_def.specs.declared.written.RawDecl.{RawDecl}
use Rattle.view_def.specs.RawConditions.{raw_of}
use Rattle.view_def.specs.Tree.{tree_of}
use Rattle.ss_parser.specs.Views.{selection, declarations, ending, view, most_open}
use Rattle.ss_parser.specs.Heads.{head_in}
use Rattle.ss_parser.proofs.Exits.{stops_with}
use Rattle.ss_parser.proofs.reader.Reader.view.Goals as goal

pub returns-in_err-select : goal.returns-in_err-select
returns-in_err-select c =
    let p = err_from_is_err_and c.from_residual-in_err-select.result c.from_residual-in_err-select.ensures.1 in
    rw (p.1, p.2) (stops_with (vec_items {X = RawTerm} {Z = Global}) tree_of selection (view most_open) c.args.self.now c.header.new.self c.select_part.new.self
    (λ deep s. inr (head_in c.in_ok-header.header, c.header.new.self, c.in_ok-header.ensures, inl s)) c.in_err-select.field-0.0 c.in_err-select.ensures)

pub returns-in_err-decls : goal.returns-in_err-decls
returns-in_err-decls c =
    let p = err_from_is_err_and c.from_residual-in_err-decls.result c.from_residual-in_err-decls.ensures.1 in
    rw (p.1, p.2) (stops_with (vec_items {X = RawDecl} {Z = Global}) tree_of declarations (view most_open) c.args.self.now c.select_part.new.self c.from_part.new.self
    (λ deep s. inr (head_in c.in_ok-header.header, c.header.new.self, c.in_ok-header.ensures, inr (c.in_ok-select.select.items, c.select_part.new.self, c.in_ok-select.ensures, inl s))) c.in_err-decls.field-0.0 c.in_err-decls.ensures)

pub returns-in_err-filter : goal.returns-in_err-filter
returns-in_err-filter c =
    let p = err_from_is_err_and c.from_residual-in_err-filter.result c.from_residual-in_err-filter.ensures.1 in
    rw (p.1, p.2) (stops_with (option_map raw_of) tree_of (ending most_open) (view most_open) c.args.self.now c.from_part.new.self c.ending.new.self
    (λ deep s. inr (head_in c.in_ok-header.header, c.header.new.self, c.in_ok-header.ensures, inr (c.in_ok-select.select.items, c.select_part.new.self, c.in_ok-select.ensures, inr (c.in_ok-decls.decls.items, c.from_part.new.self, c.in_ok-decls.ensures, inl s)))) c.in_err-filter.field-0.0 c.in_err-filter.ensures)
