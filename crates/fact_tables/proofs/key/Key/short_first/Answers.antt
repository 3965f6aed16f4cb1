use Rattle.std.proofs.Common.{◌≡◌, ◌∙◌, ◌<◌, ◌%◌, [], take, sym, ap, length, Some, rules}
use Rattle.std.specs.Int.{w64, to_be_bytes}
use Rattle.std.proofs.lemmas.Bool.{ltb-true}
use Rattle.std.specs.Prelude.{slice_get}
use Rattle.fact_tables.proofs.ShortLemmas.{first_bytes, both_bytes, shortened_by_none}
use Rattle.fact_tables.proofs.key.Key.short_first.Goals as goal

pub returns-then-is_whole : goal.returns-then-is_whole
returns-then-is_whole c =
    let row = c.self.inside.values in
    let none : c.self.inside.beginning.now ≡ [] = search rules in
    let same = shortened_by_none c.self.inside.beginning.now row none in
    let front = rw same at c.self.invariant.front in
    let whole = ltb-true (c.self.inside.front % 256) 8 (sym c.is_whole.ensures ∙ c.if-is_whole.true) in
    let some : 0 < length row = search rules in
    ap Some (c.of.ensures ∙ ap (λ n. take (n % 256) (to_be_bytes w64 n)) front)
    ∙ first_bytes row (rw same at c.self.invariant.digits) some (rw front at whole) ∙ ap (λ r. slice_get r 0) c.self.view_is

pub returns-then-is_whole-2 : goal.returns-then-is_whole-2
returns-then-is_whole-2 c =
    let row = c.self.inside.values in
    let none : c.self.inside.beginning.now ≡ [] = search rules in
    let same = shortened_by_none c.self.inside.beginning.now row none in
    let front = rw same at c.self.invariant.front in
    let next = rw same at c.self.invariant.next in
    let long = sym c.is_whole.ensures ∙ c.if-is_whole.false in
    let whole = ltb-true (c.self.inside.next % 256) 8 (sym c.is_whole-else-is_whole.ensures ∙ c.if-is_whole-2.true) in
    let some : 0 < length row = search rules in
    let both = rw (front, next) at c.of_both.ensures in
    ap Some both ∙ both_bytes row (rw same at c.self.invariant.digits) some (rw same at c.self.invariant.next_digits) (rw front at long) (rw next at whole) ∙ ap (λ r. slice_get r 0) c.self.view_is
