use Rattle.std.proofs.Common.{◌≡◌, ◌<◌, ◌++◌, ◌∷◌, [], ◌∙◌, ℕ, List, Vec, length, take, get_or, arith, ap, sym}
use Rattle.std.specs.Global.{Global}
use Rattle.std.proofs.lemmas.List.{length_push, map-append}
use Rattle.ss_text.specs.Texts.{Row}
use Rattle.plan_translate.specs.ChainFills.{rows_in}
use Rattle.plan_translate.specs.Parts.{own_tests}
use Rattle.plan_translate.specs.Listed.{rows_passing, own_listed}
use Rattle.schema_delta.specs.Flat.{flat}
use Rattle.plan_translate.proofs.OwnRows.{listed_more}
use Rattle.plan_translate.proofs.listed.each_own.Goals as goal

pub loop-spec-preserved : goal.loop-spec-preserved
loop-spec-preserved c =
    let all : List (Vec Row Global) = c.loop-spec.all.items in
    let specs = c.args.specs.now in
    let tests = c.args.tests.now in
    let d = c.args.catalogue.now.databases in
    let i : ℕ = c.loop-spec.spec-index in
    let rows : Vec Row Global = c.in_ok-own_rows.field-0 in
    let spec = c.spec-item.result in
    let test = c.index-tests-len.result in
    let within : i < length specs = omega arith in
    let lt : i < length tests = omega (arith, within, c.requires) in
    let place : c.len.result ≡ i = omega (arith, c.len.ensures, c.loop-spec.invariant.counted) in
    let at : test ≡ get_or tests i test = c.index-tests-len.is ∙ ap (λ (k : ℕ). get_or tests k test) place in
    let here : rows.items ≡ rows_passing test.items (flat d spec) = c.in_ok-own_rows.ensures ∙ ap (λ ts. rows_passing ts (flat d spec)) c.deref.ensures.value in
    record {
      listed =
          ap rows_in c.in_ok-push.ensures.items
          ∙ map-append (λ (v : Vec Row Global). v.items) all (rows ∷ [])
          ∙ ap (λ (l : List (List Row)). l ++ rows.items ∷ []) c.loop-spec.invariant.listed
          ∙ ap (λ (l : List Row). own_listed d (take i specs) (own_tests (take i tests)) ++ l ∷ []) here
          ∙ sym (listed_more d specs tests i spec test within lt c.spec-item.is at);
      counted = omega (arith, ap length c.in_ok-push.ensures.items, length_push all rows, c.loop-spec.invariant.counted);
    }
