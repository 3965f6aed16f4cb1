use Rattle.std.proofs.Common.{◌≡◌, ◌∙◌, ◌<◌, ◌%◌, take, sym, ap, length, true, Some, rules}
use Rattle.std.specs.Int.{w64, to_be_bytes}
use Rattle.std.specs.Prelude.{slice_get}
use Rattle.std.proofs.lemmas.Bool.{ltb-true}
use Rattle.ss_text.specs.Front.{is_whole}
use Rattle.fact_tables.proofs.ShortLemmas.{second_behind}
use Rattle.fact_tables.proofs.key.Key.short_second.Goals as goal

pub returns-then-is_whole : goal.returns-then-is_whole
returns-then-is_whole c =
    let row = c.self.inside.values in
    let n = length c.self.inside.beginning.now in
    let held : is_whole 7 c.self.inside.front ≡ true = search rules in
    let whole = ltb-true (c.self.inside.next % 256) 8 (sym c.is_whole-2.ensures ∙ c.if-is_whole.true) in
    let some : 1 < length row = search rules in
    ap Some (c.of.ensures ∙ ap (λ n. take (n % 256) (to_be_bytes w64 n)) c.self.invariant.next)
    ∙ second_behind n row some c.self.invariant.next_digits (rw c.self.invariant.front at held) (rw c.self.invariant.next at whole) ∙ ap (λ r. slice_get r 1) c.self.view_is
