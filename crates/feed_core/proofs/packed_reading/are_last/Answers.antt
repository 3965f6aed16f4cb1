use Rattle.std.proofs.Common.{◌≡◌, ◌∙◌, [], drop, sym, ap}
use Rattle.std.proofs.Math.ListN.{drop_of_length-le}
use Rattle.ss_text.specs.Texts.{Row, row_eq}
use Rattle.feed_core.specs.Packed.{unpacked_row}
use Rattle.feed_core.proofs.PackedLemmas.{none_compared}
use Rattle.feed_core.proofs.packed_reading.are_last.Goals as goal

pub returns : goal.returns
returns c =
    let done : drop c.loop-text.text-index c.args.texts.now ≡ [] = drop_of_length-le c.args.texts.now c.loop-text-test.false in
    c.is_empty.ensures ∙ sym (none_compared c.loop-text.rest.now) ∙ ap (λ (ts : Row). row_eq ts (unpacked_row c.loop-text.rest.now)) (sym done) ∙ c.loop-text.invariant
