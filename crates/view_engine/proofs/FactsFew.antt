-- A view of the profile over a sound catalogue has fewer than 2^128 facts.
use Rattle.std.proofs.Common.{◌≡◌, ◌≤◌, ◌<◌, ◌^◌, ◌++◌, List, [], ◌∷◌, length, arith}
use Rattle.std.proofs.lemmas.List.{length-map}
use Rattle.std.proofs.lemmas.List.Sums.{length-filter, count_by-le-length}
use Rattle.std.proofs.lemmas.Nat.{mul-le}
use Rattle.schema_model.specs.Catalogue.{CatalogueValue}
use Rattle.schema_model.specs.Sound.{IsSound}
use Rattle.view_def.specs.declared.typed.Range.{Range}
use Rattle.view_def.specs.Query.{Query}
use Rattle.view_def.specs.Profile.{ranges_over_rows, IsViewOfProfile}
use Rattle.view_meaning.specs.Elements.{Valuation, Element, elements}
use Rattle.view_meaning.specs.Terms.{value_of}
use Rattle.view_meaning.specs.Valuations.{assignments, counts, valuations}
use Rattle.view_meaning.specs.Meaning.{fact_of, facts}
use Rattle.view_engine.proofs.Products.{flat_few, bound, product, most, product_few}
use Rattle.view_engine.proofs.ElementsFew.{elements_few}
use Rattle.schema_model.specs.Limits.{most_rows}

assignments_few : (c : CatalogueValue) (v : Valuation) (ds : List Range) → IsSound c → length (assignments c v ds) ≤ product most_rows 4000 ranges_over_rows ds
assignments_few c v [] sound = omega arith
assignments_few c v (d ∷ ds) sound =
    let rest = product most_rows 4000 ranges_over_rows ds in
    let all = flat_few (λ (e : Element). assignments c (v ++ e ∷ []) ds) rest (elements c v d) (λ e. assignments_few c (v ++ e ∷ []) ds sound) in
    let here = mul-le (length (elements c v d)) rest (bound most_rows 4000 (ranges_over_rows d)) rest (elements_few c sound v d) (omega arith) in
    omega (arith, all, here)

valuations_few : (c : CatalogueValue) (q : Query) → length (valuations c q) ≤ length (assignments c [] q.decls)
unfolding valuations
valuations_few c q =
    let test = λ (v : Valuation). counts q (value_of v) in
    omega (arith, length-filter test (assignments c [] q.decls), count_by-le-length test (assignments c [] q.decls))

one_for_each : (c : CatalogueValue) (q : Query) → length (facts c q) ≡ length (valuations c q)
unfolding facts
one_for_each c q = length-map (valuations c q) (λ (v : Valuation). fact_of q (value_of v))

pub facts_few : (c : CatalogueValue) (q : Query) → IsSound c → IsViewOfProfile q → length (facts c q) < 2 ^ 128
facts_few c q sound profile =
    let all = product_few most_rows 4000 (omega arith) (omega arith) ranges_over_rows q.decls 4 4 profile.few_over_rows profile.few in
    let small : most most_rows 4000 4 4 < 2 ^ 128 = omega arith in
    omega (arith, one_for_each c q, valuations_few c q, assignments_few c [] q.decls sound, all, small)
