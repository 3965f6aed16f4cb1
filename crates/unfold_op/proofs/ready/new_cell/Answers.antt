use Rattle.std.proofs.Common.{◌∙◌, ap, sym, Some, option_map, ℕ}
use Rattle.std.specs.Map.{lookup}
use Rattle.ss_text.specs.Texts.{Text}
use Rattle.unfold_op.specs.Touched.{Place, place_eq}
use Rattle.unfold_op.specs.Nets.{now}
use Rattle.unfold_op.proofs.ready.new_cell.Goals as goal

pub returns : goal.returns
returns c =
    let k = c.args.counts.now in
    let n = c.args.nets.now in
    let place : Place = c.args.place.now in
    let value = c.in-Some.value in
    let is = sym c.in-Some.is ∙ c.in_ok-value.ensures ∙ ap (λ (es : _). lookup (place_eq place) es) c.requires.present in
    let count = c.count_after-count.ensures ∙ ap (λ (p : Place). (now k n).entries (p, value)) c.in_ok-copied.ensures in
    ap (λ (m : ℕ). Some (let cell : Text × ℕ = (value, m) in cell)) count ∙ ap (option_map (λ (v : Text). let cell : Text × ℕ = (v, (now k n).entries (place, v)) in cell)) is
