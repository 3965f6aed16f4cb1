use Rattle.std.proofs.Common.{◌++◌, ◌∷◌, [], ◌∙◌, ap, sym, List, Option, take, append_assoc}
use Rattle.std.specs.Prelude.{option_to_list}
use Rattle.std.specs.List.{filter_map}
use Rattle.flow_law.specs.declared.line.TableLine.{TableLine}
use Rattle.unfold_op.specs.Touched.{Place}
use Rattle.unfold_op.specs.Kept.{place_line, value_held, value_among}
use Rattle.unfold_op.specs.Nets.{now}
use Rattle.unfold_op.proofs.Picked.{given_more, one_given}
use Rattle.unfold_op.proofs.lines.push_cells.Goals as goal

pub loop-place-preserved : goal.loop-place-preserved
loop-place-preserved c =
    let k = c.args.counts.now in
    let n = c.args.nets.now in
    let h : Place → Option TableLine = place_line c.args.label.now (now k n).keys (now k n).columns (value_held k.cells) (value_among c.args.present.now) in
    let at = c.place-item.result in
    let first = c.args.lines.now.items in
    c.in_ok-push_place.ensures ∙ ap (λ (o : Option TableLine). c.loop-place.lines.items ++ option_to_list o) c.in_ok-line.ensures
    ∙ ap (λ (ls : List TableLine). c.loop-place.lines.items ++ ls) (one_given h at)
    ∙ ap (λ (ls : List TableLine). ls ++ filter_map h (at ∷ [])) c.loop-place.invariant ∙ append_assoc first _ _
    ∙ ap (λ (p : Place). first ++ (filter_map h (take c.loop-place.place-index c.args.places.now) ++ filter_map h (p ∷ []))) c.place-item.is
    ∙ ap (λ (ls : List TableLine). first ++ ls) (sym (given_more h c.args.places.now c.loop-place.place-index at c.loop-place-test.true))
