use Rattle.std.proofs.Common.{◌≡◌, ◌<◌, ◌∙◌, ap, sym, subst, ℕ, List, length, slice_set}
use Rattle.std.specs.List.{position_or_len}
use Rattle.ss_text.specs.Texts.{Text, text_eq}
use Rattle.schema_model.proofs.ChangeLemmas.{position_there, place_within}
use Rattle.schema_model.proofs.ReadyLemmas.{same_some}
use Rattle.schema_model.proofs.sheets.renamed.Goals as goal

pub unreachable-requires : goal.unreachable-requires
unreachable-requires c = cc (c.in_default.ensures, position_there (text_eq c.args.name.now) c.args.names.now c.requires)

pub set-requires : goal.set-requires
set-requires c =
    let is : c.in-Some.place ≡ position_or_len (text_eq c.args.name.now) c.args.names.now = same_some c.in-Some.place (position_or_len (text_eq c.args.name.now) c.args.names.now) (c.in-Some.ensures ∙ position_there (text_eq c.args.name.now) c.args.names.now c.requires) in
    let lt : c.in-Some.place < length c.args.names.now = subst (λ (n : ℕ). n < length c.args.names.now) (sym is) (place_within (text_eq c.args.name.now) c.args.names.now c.requires) in
    subst (λ (ts : List Text). c.in-Some.place < length ts) (sym c.in_ok-texts.ensures) lt

pub returns : goal.returns
returns c =
    let is : c.in-Some.place ≡ position_or_len (text_eq c.args.name.now) c.args.names.now = same_some c.in-Some.place (position_or_len (text_eq c.args.name.now) c.args.names.now) (c.in-Some.ensures ∙ position_there (text_eq c.args.name.now) c.args.names.now c.requires) in
    c.of.ensures ∙ c.set.ensures ∙ ap (λ (ts : List Text). slice_set ts c.in-Some.place c.in_ok-to.to) c.in_ok-texts.ensures ∙ ap (λ (n : ℕ). slice_set c.args.names.now n c.in_ok-to.to) is ∙ ap (slice_set c.args.names.now (position_or_len (text_eq c.args.name.now) c.args.names.now)) c.in_ok-to.ensures
