use Rattle.std.proofs.Common.{◌++◌, ◌∷◌, [], ◌∙◌, ap, sym, List, take, append_assoc}
use Rattle.std.specs.List.{filter_map}
use Rattle.unfold_op.specs.Touched.{Place, Entry}
use Rattle.counts.specs.Counted.{keys_of}
use Rattle.unfold_op.specs.Kept.{held_at}
use Rattle.unfold_op.proofs.Picked.{given_more}
use Rattle.unfold_op.proofs.values.touched.Goals as goal

pub loop-place-preserved : goal.loop-place-preserved
loop-place-preserved c =
    let cells = c.args.cells.now in
    let named = keys_of c.args.named.now in
    let at = c.place-item.result in
    c.in_ok-push_held.ensures ∙ ap (λ (es : List Entry). es ++ filter_map (held_at cells) (at ∷ [])) c.loop-place.invariant ∙ append_assoc named _ _
    ∙ ap (λ (p : Place). named ++ (filter_map (held_at cells) (take c.loop-place.place-index c.args.places.now) ++ filter_map (held_at cells) (p ∷ []))) c.place-item.is
    ∙ ap (λ (es : List Entry). named ++ es) (sym (given_more (held_at cells) c.args.places.now c.loop-place.place-index at c.loop-place-test.true))
