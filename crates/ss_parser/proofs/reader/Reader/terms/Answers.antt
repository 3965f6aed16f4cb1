use Rattle.std.proofs.Common.{Global, vec_items}
use Rattle.std.specs.Prelude.{codes}
use Rattle.std.proofs.lemmas.Result.{err_from_is_err_and}
use Rattle.view_def.specs.declared.written.RawTerm.{RawTerm}
use Rattle.ss_parser.specs.Phrases.{here}
use Rattle.ss_parser.specs.Terms.{is_sign, some, a_term}
use Rattle.ss_parser.proofs.ViewLaws.{a_term_laws, word, after_term}
use Rattle.ss_parser.proofs.Exits.{stops_with}
use Rattle.ss_parser.proofs.ListLoops.{list_last, list_more, list_shorter}
use Rattle.ss_parser.proofs.reader.Reader.terms.Goals as goal

pub returns-in_err-term : goal.returns-in_err-term
returns-in_err-term c =
    let p = err_from_is_err_and c.from_residual.result c.from_residual.ensures.1 in
    rw (p.1, p.2) (stops_with (λ (x : RawTerm). x) (vec_items {X = RawTerm} {Z = Global}) a_term (some a_term) c.args.self.now c.loop-all.self c.term.new.self (λ deep s. c.loop-all.invariant.stops deep c.term.new.self (here s)) c.in_err-term.field-0.0 c.in_err-term.ensures)

pub returns-then-not-takes_sign : goal.returns-then-not-takes_sign
returns-then-not-takes_sign c =
    list_last (is_sign (codes ",")) a_term c.args.self.now c.loop-all.self c.term.new.self c.takes_sign.new.self c.loop-all.all.items c.push.new.self.items c.in_ok-term.term c.loop-all.invariant c.in_ok-term.ensures c.if-not-takes_sign.ensures.missing c.if-not-takes_sign.ensures.stays c.in_ok-push.ensures.items

pub loop-all-preserved : goal.loop-all-preserved
loop-all-preserved c =
    list_more (is_sign (codes ",")) a_term c.args.self.now c.loop-all.self c.term.new.self c.takes_sign.new.self c.loop-all.all.items c.push.new.self.items c.in_ok-term.term c.loop-all.invariant c.in_ok-term.ensures c.if-not-takes_sign.ensures.there c.in_ok-push.ensures.items

pub loop-all-smaller : goal.loop-all-smaller
loop-all-smaller c =
    list_shorter (is_sign (codes ",")) a_term after_term word a_term_laws c.loop-all.self c.term.new.self c.takes_sign.new.self c.in_ok-term.term c.in_ok-term.ensures c.if-not-takes_sign.ensures.there
