use Rattle.std.proofs.Common.{rules, [], ◌∙◌, ap, sym, Ok, Err, Some}
use Rattle.std.proofs.lemmas.Fn.{always_returns_same}
use Rattle.std.proofs.lemmas.List.{get_or_default}
use Rattle.ss_text.proofs.KeyLemmas.{searched, lookup_at, lookup_lacks, lacks_for}
use Rattle.unfold_op.specs.Touched.{Entry, place_cmp}
use Rattle.unfold_op.proofs.TouchedLines.{place_order}
use Rattle.unfold_op.proofs.ready.found.Goals as goal

pub returns-in_ok-value-in-Ok : goal.returns-in_ok-value-in-Ok
returns-in_ok-value-in-Ok c =
    let place = c.args.place.now in
    let es = c.args.entries.now in
    let by_place = c.in-Ok.ensures.position (λ (e : Entry). place_cmp e.0 place) (always_returns_same _ _ _ (λ a r g called. search rules)) in
    let at = (searched place_order (λ (e : Entry). e.0) place es (Ok c.in-Ok.at) c.requires c.in-Ok.ensures.bound by_place).found in
    ap Some (c.in_ok-value-in-Ok.ensures ∙ ap (λ (e : Entry). e.1) (get_or_default es c.in-Ok.at c.index-entries-at.result (([], []), []) c.in-Ok.ensures.bound)) ∙ sym (lookup_at place_order place es c.in-Ok.at (([], []), []) c.requires at)

pub returns-in-Err : goal.returns-in-Err
returns-in-Err c =
    let place = c.args.place.now in
    let es = c.args.entries.now in
    let by_place = c.in-Err.ensures.position (λ (e : Entry). place_cmp e.0 place) (always_returns_same _ _ _ (λ a r g called. search rules)) in
    let gap = (searched place_order (λ (e : Entry). e.0) place es (Err c.in-Err.field-0) c.requires c.in-Err.ensures.bound by_place).absent in
    sym (lookup_lacks place_order place es (lacks_for place_order (λ (e : Entry). e.0) place es c.in-Err.field-0 gap))
