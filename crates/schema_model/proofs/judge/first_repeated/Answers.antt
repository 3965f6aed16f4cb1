use Rattle.std.proofs.Common.{◌≡◌, ◌<◌, ℕ, List, Bool, true, [], take, length, slice_index_or, sym, ◌∙◌, ap, arith}
use Rattle.std.proofs.lemmas.List.{get_or_read}
use Rattle.ss_text.specs.Texts.{Text, is_in}
use Rattle.schema_model.proofs.Repeated.{found_first, found_none}
use Rattle.schema_model.proofs.judge.first_repeated.Goals as goal

abbrev stands_earlier : List Text → ℕ → Bool
stands_earlier names i = is_in (slice_index_or names i []) (take i names)

pub returns-then-is_in : goal.returns-then-is_in
returns-then-is_in c =
    let names = c.args.names.now in
    let i = c.loop-place.place in
    let lt : i < length names = c.loop-place-test.true in
    let same : c.index-names-place.result ≡ slice_index_or names i [] = get_or_read names i _ lt c.index-names-place.is [] in
    let here : stands_earlier names i ≡ true = ap (λ t. is_in t (take i names)) (sym same) ∙ sym c.if-is_in.ensures in
    sym (found_first (stands_earlier names) (length names) 0 i (omega arith) (omega arith) (λ k _ below. c.loop-place.invariant k below) here)

pub returns : goal.returns
returns c =
    let names = c.args.names.now in
    sym (found_none (stands_earlier names) (length names) 0 (λ k _ below. c.loop-place.invariant k (omega (arith, below))))
