use Rattle.std.proofs.Common.{Global, vec_items}
use Rattle.std.specs.Prelude.{codes}
use Rattle.std.proofs.lemmas.Result.{err_from_is_err_and}
use Rattle.view_def.specs.declared.written.RawDecl.{RawDecl}
use Rattle.ss_parser.specs.Phrases.{here}
use Rattle.ss_parser.specs.Terms.{is_sign, some}
use Rattle.ss_parser.specs.Declarations.{decl}
use Rattle.ss_parser.proofs.PhraseLaws.{always}
use Rattle.ss_parser.proofs.ViewLaws.{decl_laws, the_sign}
use Rattle.ss_parser.proofs.Exits.{stops_with}
use Rattle.ss_parser.proofs.ListLoops.{list_last, list_more, list_shorter}
use Rattle.ss_parser.proofs.reader.Reader.declarations.Goals as goal

pub returns-in_err-one : goal.returns-in_err-one
returns-in_err-one c =
    let p = err_from_is_err_and c.from_residual.result c.from_residual.ensures.1 in
    rw (p.1, p.2) (stops_with (λ (x : RawDecl). x) (vec_items {X = RawDecl} {Z = Global}) decl (some decl) c.args.self.now c.loop-all.self c.declaration.new.self (λ deep s. c.loop-all.invariant.stops deep c.declaration.new.self (here s)) c.in_err-one.field-0.0 c.in_err-one.ensures)

pub returns-then-not-takes_sign : goal.returns-then-not-takes_sign
returns-then-not-takes_sign c =
    list_last (is_sign (codes ",")) decl c.args.self.now c.loop-all.self c.declaration.new.self c.takes_sign.new.self c.loop-all.all.items c.push.new.self.items c.in_ok-one.one c.loop-all.invariant c.in_ok-one.ensures c.if-not-takes_sign.ensures.missing c.if-not-takes_sign.ensures.stays c.in_ok-push.ensures.items

pub loop-all-preserved : goal.loop-all-preserved
loop-all-preserved c =
    list_more (is_sign (codes ",")) decl c.args.self.now c.loop-all.self c.declaration.new.self c.takes_sign.new.self c.loop-all.all.items c.push.new.self.items c.in_ok-one.one c.loop-all.invariant c.in_ok-one.ensures c.if-not-takes_sign.ensures.there c.in_ok-push.ensures.items

pub loop-all-smaller : goal.loop-all-smaller
loop-all-smaller c =
    list_shorter (is_sign (codes ",")) decl always (the_sign (codes "->")) decl_laws c.loop-all.self c.declaration.new.self c.takes_sign.new.self c.in_ok-one.one c.in_ok-one.ensures c.if-not-takes_sign.ensures.there
