use Rattle.std.proofs.Common.{◌≡◌, ◌∙◌, [], None, List, sym, ap, subst, arith}
use Rattle.std.specs.Prelude.{IsTrue}
use Rattle.std.specs.List.{AllByRecursion}
use Rattle.schema_model.specs.Catalogue.{CatalogueValue}
use Rattle.schema_model.specs.Changes.{after, after_all, is_well_formed}
use Rattle.schema_model.specs.Refusals.{fault, group_fault}
use Rattle.schema_model.specs.States.{CatalogueState}
use Rattle.schema_model.specs.declared.change.Change.{Change}
use Rattle.schema_model.proofs.GroupLemmas.{first_none, none_left}
use Rattle.schema_model.proofs.catalogue.make_each.Goals as goal

pub reserve-requires-clause-well_formed : goal.reserve-requires-clause-well_formed
reserve-requires-clause-well_formed c = (subst (λ (gs : List Change). AllByRecursion (λ g. IsTrue (is_well_formed g)) gs) c.in-Some.ensures.cases.0 c.loop-change.invariant.formed).0

pub reserve-requires-clause-accepted : goal.reserve-requires-clause-accepted
reserve-requires-clause-accepted c =
    let now = c.loop-change.catalogue.databases in
    let g = c.in-Some.change.now in
    let later = c.in-Some.later.now in
    (first_none (fault now g) (group_fault (after now g) later) (sym (ap (group_fault now) c.in-Some.ensures.cases.0) ∙ c.loop-change.invariant.accepted)).0

pub loop-change-preserved : goal.loop-change-preserved
loop-change-preserved c =
    let now = c.loop-change.catalogue.databases in
    let g = c.in-Some.change.now in
    let later = c.in-Some.later.now in
    let is = c.in-Some.ensures.cases.0 in
    let parts = first_none (fault now g) (group_fault (after now g) later) (sym (ap (group_fault now) is) ∙ c.loop-change.invariant.accepted) in
    let made : c.commit.new.self.databases ≡ after now g
    = ap (λ (s : CatalogueState). s.databases) c.commit.ensures ∙ ap (λ (s : CatalogueState). after s.databases c.in_ok-ready.ready) c.in_ok-ready.ensures.waits ∙ ap (after now) c.in_ok-ready.ensures.ready in
    record {
      formed = (subst (λ (gs : List Change). AllByRecursion (λ g. IsTrue (is_well_formed g)) gs) is c.loop-change.invariant.formed).1;
      accepted = subst (λ (d : CatalogueValue). group_fault d later ≡ None) (sym made) parts.1;
      same = ap (λ (d : CatalogueValue). after_all d later) made ∙ sym (ap (after_all now) is) ∙ c.loop-change.invariant.same;
    }

pub returns : goal.returns
returns c =
    let none : c.loop-change.left.now ≡ [] = none_left c.loop-change.left.now (omega (arith, c.in_default.ensures.cases)) in
    sym (ap (after_all c.loop-change.catalogue.databases) none) ∙ c.loop-change.invariant.same
