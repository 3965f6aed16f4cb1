use Rattle.std.proofs.Common.{Global, vec_items}
use Rattle.std.specs.Prelude.{codes}
use Rattle.std.proofs.lemmas.Result.{err_from_is_err_and}
use Rattle.view_def.specs.declared.written.Name.{Name}
use Rattle.ss_parser.specs.Phrases.{here}
use Rattle.ss_parser.specs.Terms.{is_sign, some, name}
use Rattle.ss_parser.proofs.PhraseLaws.{always}
use Rattle.ss_parser.proofs.ViewLaws.{name_laws, word}
use Rattle.ss_parser.proofs.Exits.{stops_with}
use Rattle.ss_parser.proofs.ListLoops.{list_last, list_more, list_shorter}
use Rattle.ss_parser.proofs.reader.Reader.names.Goals as goal

pub returns-in_err-name : goal.returns-in_err-name
returns-in_err-name c =
    let p = err_from_is_err_and c.from_residual.result c.from_residual.ensures.1 in
    rw (p.1, p.2) (stops_with (λ (x : Name). x) (vec_items {X = Name} {Z = Global}) name (some name) c.args.self.now c.loop-all.self c.name.new.self (λ deep s. c.loop-all.invariant.stops deep c.name.new.self (here s)) c.in_err-name.field-0.0 c.in_err-name.ensures)

pub returns-then-not-takes_sign : goal.returns-then-not-takes_sign
returns-then-not-takes_sign c =
    list_last (is_sign (codes ",")) name c.args.self.now c.loop-all.self c.name.new.self c.takes_sign.new.self c.loop-all.all.items c.push.new.self.items c.in_ok-name.name c.loop-all.invariant c.in_ok-name.ensures c.if-not-takes_sign.ensures.missing c.if-not-takes_sign.ensures.stays c.in_ok-push.ensures.items

pub loop-all-preserved : goal.loop-all-preserved
loop-all-preserved c =
    list_more (is_sign (codes ",")) name c.args.self.now c.loop-all.self c.name.new.self c.takes_sign.new.self c.loop-all.all.items c.push.new.self.items c.in_ok-name.name c.loop-all.invariant c.in_ok-name.ensures c.if-not-takes_sign.ensures.there c.in_ok-push.ensures.items

pub loop-all-smaller : goal.loop-all-smaller
loop-all-smaller c =
    list_shorter (is_sign (codes ",")) name always word name_laws c.loop-all.self c.name.new.self c.takes_sign.new.self c.in_ok-name.name c.in_ok-name.ensures c.if-not-takes_sign.ensures.there
