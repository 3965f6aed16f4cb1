use Rattle.std.proofs.Common.{rules, ◌≡◌, ◌∙◌, ◌∷◌, [], Some, List, ap}
use Rattle.ss_text.specs.Texts.{Row}
use Rattle.schema_model.specs.Reading.{line_of}
use Rattle.feed_core.specs.Handled.{refusal_in, handled_by}
use Rattle.feed_core.proofs.HandledLemmas.{refused_is, told_as}
use Rattle.feed_core.proofs.handled.Handled.refused.Goals as goal

pub returns : goal.returns
returns c =
    let a = c.args.arrival in
    let rows : c.from_ref.result.now ≡ line_of a.change ∷ [] = search rules in
    let kept : refusal_in c.in_ok-boxed.boxed.value ≡ c.args.refused = search rules in
    told_as c.of.result (ap (λ (rows : List Row). handled_by a.source a.number rows (Some c.in_ok-boxed.boxed)) rows ∙ refused_is a c.in_ok-boxed.boxed c.args.refused c.requires kept) c.of.ensures
