use Rattle.std.proofs.Common.{arith, map, refl, sym, subst, inl, inr}
use Rattle.std.specs.Prelude.{codes}
use Rattle.std.proofs.lemmas.Result.{err_from_is_err_and}
use Rattle.view_def.specs.RawConditions.{Raw, raw_of}
use Rattle.ss_lexer.specs.Lexemes.{Piece}
use Rattle.ss_parser.specs.Phrases.{Phrase, here}
use Rattle.ss_parser.specs.Terms.{is_key, sign}
use Rattle.ss_parser.specs.Conditions.{unit as unit_phrase}
use Rattle.ss_parser.specs.Conditions.{all as all_phrase}
use Rattle.ss_parser.specs.Conditions.{any as any_phrase}
use Rattle.ss_parser.specs.Conditions.{group as group_phrase}
use Rattle.ss_parser.specs.Parses.{Parses}
use Rattle.ss_parser.proofs.ViewLaws.{word, after_term, after_all, unit_laws, all_laws, unit_zero, unit_inside}
use Rattle.ss_parser.proofs.Exits.{stops_with}
use Rattle.ss_parser.proofs.ListLoops.{list_last, list_more, list_shorter, map_more}
use Rattle.ss_parser.proofs.reader.Reader.+condition.Goals as goal

pub all-returns-in_err-member : goal.all-returns-in_err-member
all-returns-in_err-member t c =
    let p = err_from_is_err_and c.from_residual.result c.from_residual.ensures.1 in
    let u = unit_phrase c.args.levels in
    rw (p.1, p.2) (stops_with raw_of raw_of u (all_phrase u) c.args.self.now c.loop-members.self c.unit.new.self (λ deep s. inl (c.loop-members.invariant.stops deep c.unit.new.self (here s))) c.in_err-member.field-0.0 c.in_err-member.ensures)

pub all-returns-then-not-takes_key : goal.all-returns-then-not-takes_key
all-returns-then-not-takes_key t c =
    let u = unit_phrase c.args.levels in
    let ends = c.if-not-takes_key.ensures in (
      map raw_of c.push.new.self.items,
      c.takes_key.new.self,
      list_last (is_key (codes "and")) u c.args.self.now c.loop-members.self c.unit.new.self c.takes_key.new.self (map raw_of c.loop-members.members.items) (map raw_of c.push.new.self.items) (raw_of c.in_ok-member.member) c.loop-members.invariant c.in_ok-member.ensures ends.missing ends.stays
          (map_more raw_of c.loop-members.members.items c.push.new.self.items c.in_ok-member.member c.in_ok-push.ensures.items),
      (sym c.all_of.ensures, refl),
    )

pub all-loop-members-preserved : goal.all-loop-members-preserved
all-loop-members-preserved t c =
    let u = unit_phrase c.args.levels in
    list_more (is_key (codes "and")) u c.args.self.now c.loop-members.self c.unit.new.self c.takes_key.new.self (map raw_of c.loop-members.members.items) (map raw_of c.push.new.self.items) (raw_of c.in_ok-member.member) c.loop-members.invariant c.in_ok-member.ensures c.if-not-takes_key.ensures.there
    (map_more raw_of c.loop-members.members.items c.push.new.self.items c.in_ok-member.member c.in_ok-push.ensures.items)

pub all-loop-members-smaller : goal.all-loop-members-smaller
all-loop-members-smaller t c =
    let u = unit_phrase c.args.levels in
    list_shorter (is_key (codes "and")) u after_term word (unit_laws c.args.levels) c.loop-members.self c.unit.new.self c.takes_key.new.self (raw_of c.in_ok-member.member) c.in_ok-member.ensures c.if-not-takes_key.ensures.there

pub any-returns-in_err-member : goal.any-returns-in_err-member
any-returns-in_err-member t c =
    let p = err_from_is_err_and c.from_residual.result c.from_residual.ensures.1 in
    let u = unit_phrase c.args.levels in
    rw (p.1, p.2) (stops_with raw_of raw_of (all_phrase u) (any_phrase u) c.args.self.now c.loop-members.self c.all.new.self (λ deep s. inl (c.loop-members.invariant.stops deep c.all.new.self (here s))) c.in_err-member.field-0.0 c.in_err-member.ensures)

pub any-returns-then-not-takes_key : goal.any-returns-then-not-takes_key
any-returns-then-not-takes_key t c =
    let u = unit_phrase c.args.levels in
    let ends = c.if-not-takes_key.ensures in (
      map raw_of c.push.new.self.items,
      c.takes_key.new.self,
      list_last (is_key (codes "or")) (all_phrase u) c.args.self.now c.loop-members.self c.all.new.self c.takes_key.new.self (map raw_of c.loop-members.members.items) (map raw_of c.push.new.self.items) (raw_of c.in_ok-member.member) c.loop-members.invariant c.in_ok-member.ensures ends.missing ends.stays
          (map_more raw_of c.loop-members.members.items c.push.new.self.items c.in_ok-member.member c.in_ok-push.ensures.items),
      (sym c.any_of.ensures, refl),
    )

pub any-loop-members-preserved : goal.any-loop-members-preserved
any-loop-members-preserved t c =
    let u = unit_phrase c.args.levels in
    list_more (is_key (codes "or")) (all_phrase u) c.args.self.now c.loop-members.self c.all.new.self c.takes_key.new.self (map raw_of c.loop-members.members.items) (map raw_of c.push.new.self.items) (raw_of c.in_ok-member.member) c.loop-members.invariant c.in_ok-member.ensures c.if-not-takes_key.ensures.there
    (map_more raw_of c.loop-members.members.items c.push.new.self.items c.in_ok-member.member c.in_ok-push.ensures.items)

pub any-loop-members-smaller : goal.any-loop-members-smaller
any-loop-members-smaller t c =
    let u = unit_phrase c.args.levels in
    list_shorter (is_key (codes "or")) (all_phrase u) after_all word (all_laws u (unit_laws c.args.levels)) c.loop-members.self c.all.new.self c.takes_key.new.self (raw_of c.in_ok-member.member) c.in_ok-member.ensures c.if-not-takes_key.ensures.there

pub unit-returns-then-levels-eq0 : goal.unit-returns-then-levels-eq0
unit-returns-then-levels-eq0 t c =
    subst (λ (p : Phrase Piece Raw). Parses raw_of p c.args.self.now c.innermost.new.self c.innermost.result) (sym (unit_zero c.args.levels (omega arith))) c.innermost.ensures

pub unit-returns-else-levels-eq0 : goal.unit-returns-else-levels-eq0
unit-returns-else-levels-eq0 t c =
    subst (λ (p : Phrase Piece Raw). Parses raw_of p c.args.self.now c.nested.new.self c.nested.result) (sym (unit_inside c.args.levels (omega arith))) c.nested.ensures

pub group-returns-in_err-held : goal.group-returns-in_err-held
group-returns-in_err-held t c =
    let p = err_from_is_err_and c.from_residual-in_err-held.result c.from_residual-in_err-held.ensures.1 in
    let u = unit_phrase c.args.levels in
    rw (p.1, p.2) (stops_with raw_of raw_of (any_phrase u) (group_phrase u) c.args.self.now c.sign.new.self c.any.new.self (λ deep s. inr (tt, c.sign.new.self, c.in_ok-sign.ensures, inl s)) c.in_err-held.field-0.0 c.in_err-held.ensures)

pub group-returns-in_err-sign-2 : goal.group-returns-in_err-sign-2
group-returns-in_err-sign-2 t c =
    let p = err_from_is_err_and c.from_residual-in_err-sign-2.result c.from_residual-in_err-sign-2.ensures.1 in
    let u = unit_phrase c.args.levels in
    rw (p.1, p.2) (stops_with (λ (x : Unit {0}). x) raw_of (sign (codes ")")) (group_phrase u) c.args.self.now c.any.new.self c.sign-2.new.self
    (λ deep s. inr (tt, c.sign.new.self, c.in_ok-sign.ensures, inr (raw_of c.in_ok-held.held, c.any.new.self, c.in_ok-held.ensures, inl s))) c.in_err-sign-2.field-0.0 c.in_err-sign-2.ensures)
