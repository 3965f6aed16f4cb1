use Rattle.std.proofs.Common.{◌≡◌, ◌<◌, ◌+◌, ◌∙◌, [], ◌∷◌, ◌++◌, take, length, arith, ap, sym}
use Rattle.std.proofs.lemmas.List.{take_more}
use Rattle.std.proofs.lemmas.Slice.Zip.{all_zipped_more}
use Rattle.schema_delta.specs.Flat.{MovesFlat}
use Rattle.schema_delta.specs.declared.spec.FlatSpec.{FlatSpec}
use Rattle.schema_delta.proofs.changes.flat_changes.Goals as goal

pub loop-spec-preserved : goal.loop-spec-preserved
loop-spec-preserved g c =
    let R = MovesFlat c.args.catalogue.now.databases c.args.change.now in
    let specs = c.args.specs.now in
    let i = c.loop-spec.spec-index in
    let spec : FlatSpec = c.spec-item.result in
    let lt : i < length specs = omega arith in
    let more = all_zipped_more R (take i specs) c.loop-spec.deltas.items spec c.in_ok-delta.delta c.loop-spec.invariant.moved c.in_ok-delta.ensures.moved in
    let front : take (i + 1) specs ≡ take i specs ++ spec ∷ [] = take_more specs i spec lt ∙ ap (λ (s : FlatSpec). take i specs ++ s ∷ []) (sym c.spec-item.is) in
    record {
      moved = rw (front, c.in_ok-push.ensures.items) more;
      counted = c.in_ok-delta.ensures.steps ∙ c.loop-spec.invariant.counted;
    }
