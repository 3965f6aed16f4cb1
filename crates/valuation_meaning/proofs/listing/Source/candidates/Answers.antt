use Rattle.std.proofs.Common.{◌++◌, ◌∷◌, []}
use Rattle.view_def.specs.Query.{query_of}
use Rattle.view_meaning.specs.Elements.{Element, elements}
use Rattle.view_meaning.specs.Early.{AliasesAgree}
use Rattle.valuation_meaning.specs.Lookups.{IsLookup}
use Rattle.valuation_meaning.proofs.AliasLemmas.{elements_agree, all_by}
use Rattle.valuation_meaning.proofs.ListingLemmas.{all_enough}
use Rattle.valuation_meaning.proofs.SoughtLemmas.{among_all}
use Rattle.valuation_meaning.proofs.FoundLemmas.{any_agrees, enough}
use Rattle.valuation_meaning.proofs.listing.Source.candidates.Goals as goal

pub returns-in_default-clause-facts : goal.returns-in_default-clause-facts
returns-in_default-clause-facts c =
    let s = c.args.self.now in
    rw c.in_ok-all.ensures (all_enough s.catalogue.now.databases (query_of s.view.now) c.args.valuation.now c.args.range.now c.requires.range)

pub returns-in_default-clause-agree : goal.returns-in_default-clause-agree
returns-in_default-clause-agree c =
    let s = c.args.self.now in
    let q = query_of s.view.now in
    let v = c.args.valuation.now in
    let d = c.args.range.now in
    let all = all_by (λ (e : Element). AliasesAgree q (v ++ e ∷ [])) (elements s.catalogue.now.databases v d) (elements_agree s.catalogue.now.databases q v d c.requires.agree c.requires.range) in
    rw c.in_ok-all.ensures all

pub returns-clause-facts : goal.returns-clause-facts
returns-clause-facts c =
    let s = c.args.self.now in
    let q = query_of s.view.now in
    let is = among_all (IsLookup q) s.lookups.items c.deref.result.now c.in-Some.lookup.now c.deref.ensures.value c.requires.ready.lookups c.in-Some.ensures.among in
    rw (c.in_ok-found.ensures.found, c.requires.catalogue) (enough s.catalogue.now.databases q c.args.valuation.now c.in-Some.lookup.now is c.in-Some.ensures.place c.requires.agree)

pub returns-clause-agree : goal.returns-clause-agree
returns-clause-agree c =
    let s = c.args.self.now in
    let q = query_of s.view.now in
    let is = among_all (IsLookup q) s.lookups.items c.deref.result.now c.in-Some.lookup.now c.deref.ensures.value c.requires.ready.lookups c.in-Some.ensures.among in
    λ _ _ _. any_agrees s.catalogue.now.databases q c.args.valuation.now c.in-Some.lookup.now is c.in-Some.ensures.place c.requires.agree _
