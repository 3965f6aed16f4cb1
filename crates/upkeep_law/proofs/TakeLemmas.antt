-- Each script that is said, applied to the tables before its answer, gives those after it.
use Rattle.std.proofs.Common.{◌≡◌, ℕ, Bool, true, List, [], ◌∷◌, Option, None, Some, refl, sym, ap, ◌∙◌, subst, inl, inr}
use Rattle.std.specs.Prelude.{is_some, option_map, Result, Ok, Err}
use Rattle.std.specs.List.{AllByRecursion}
use Rattle.std.specs.Option.{ForSome}
use Rattle.std.proofs.lemmas.List.{length-map}
use Rattle.ss_text.specs.Texts.{Text}
use Rattle.ss_text.specs.Label.{is_table_label}
use Rattle.schema_model.specs.Catalogue.{CatalogueValue}
use Rattle.schema_model.specs.Changes.{after_all}
use Rattle.view_def.specs.Query.{Query}
use Rattle.view_def.specs.Profile.{IsViewOfProfile, is_label_over}
use Rattle.view_def.specs.declared.typed.Place.{Place}
use Rattle.view_def.specs.declared.typed.Place.TheVariants as place
use Rattle.view_def.specs.declared.typed.Range.{Range}
use Rattle.view_def.specs.declared.typed.Term.{Term}
use Rattle.view_def.specs.Tree as tree
use Rattle.ss_parser.proofs.WellWritten.{read_is_written}
use Rattle.var_typing.specs.Typed.{typed}
use Rattle.var_typing.specs.declared.fault.TypeFault.{TypeFault}
use Rattle.var_typing.proofs.ProfileTheorem.{profile}
use Rattle.flow_law.specs.Facts.{illegal, conflict, refusal_by, first_refusal}
use Rattle.flow_law.specs.declared.refused.IllegalLabel.{IllegalLabel}
use Rattle.flow_law.specs.declared.refused.Clash.{Clash}
use Rattle.change_script.specs.Applied.{applied}
use Rattle.change_script.specs.Fits.{TablesFit}
use Rattle.change_script.proofs.FitLemmas.{FactFits, tables_fit}
use Rattle.change_script.proofs.AppliedLaw.{script_applies}
use Rattle.view_meaning.specs.Terms.{Reading, value_of}
use Rattle.view_meaning.specs.Elements.{Valuation}
use Rattle.view_meaning.specs.Valuations.{valuations}
use Rattle.view_meaning.specs.Meaning.{facts, fact_of, cell_of_reading, constant_label, shape_of, meaning, given}
use Rattle.view_session.specs.Session.{tables_of, lines_to}
use Rattle.view_session.proofs.UpkeepLemmas.{meaning_in_order}
use Rattle.view_stages.proofs.TableLemmas.{all_mapped}
use Rattle.ss_print.specs.Fields.{illegal_fields, clash_fields}
use Rattle.view_stages.specs.Open.{OpenValue}
use Rattle.view_stages.specs.Stages.{DefinitionOrRefusal, Accepted, ReadsAs, by_typing, typed_or_refused, refusal_of}
use Rattle.view_stages.specs.Opening.{IsDefinition}
use Rattle.opened_view.specs.Answers.{Said, Tells, Scripts, Syncs, Answer}
use Rattle.upkeep_law.specs.Given.{MayGive, AreGiven}
use Rattle.upkeep_law.specs.Promises.{TakesBy, EachTakes}
use Rattle.upkeep_law.proofs.GivenLemmas.{sync_alike, first_query, first_unrefused}

-- the facts of a view of the profile fit its form
module _ (q : Query) (p : IsViewOfProfile q) where
  column_there : (r : Reading) (c : Option Place) (v : Option Term) (column : Text) → option_map (λ (x : Text × Text). x.0) (cell_of_reading r c v) ≡ Some column → is_some c ≡ true
  column_there r (Some x) v column is = refl
  column_there r None v column is = absurd (cc)

  fact_fits : (r : Reading) → FactFits (shape_of q) (fact_of q r)
  fact_fits r = record {
    key = length-map q.keys (λ t. given (r t)) ∙ p.keys;
    cell = λ column is. sym p.column ∙ column_there r q.column q.value column is;
  }

  facts_fit : (c : CatalogueValue) → AllByRecursion (FactFits (shape_of q)) (facts c q)
  unfolding facts
  facts_fit c = all_mapped (FactFits (shape_of q)) (λ (v : Valuation). fact_of q (value_of v)) (valuations c q) (λ v. fact_fits (value_of v))

  label_legal : (ds : List Range) (l : Place) → is_label_over ds l ≡ true → ForSome (constant_label l) (λ label. is_table_label label ≡ true)
  label_legal ds (place.Fixed t) h = λ x is. let same : t ≡ x = cc in ap is_table_label (sym same) ∙ h
  label_legal ds (place.Var k) h = λ x is. absurd (cc)

  none_illegal : (i : Option IllegalLabel) (k : Option Clash) → first_refusal illegal_fields clash_fields i k ≡ None → i ≡ None
  none_illegal None k h = refl
  none_illegal (Some l) k h = absurd (cc)

  -- and so do its tables, where the view is not refused
  pub meaning_fits_form : (c : CatalogueValue) → refusal_of c q ≡ None → TablesFit (shape_of q) (meaning c q)
  unfolding refusal_of refusal_by meaning
  meaning_fits_form c none = tables_fit (shape_of q) (facts c q) (label_legal q.decls q.label p.label) (none_illegal (illegal (shape_of q) (facts c q)) (conflict (facts c q)) none) (facts_fit c)

-- the definition of an accepted view is of the profile
typed_as : (v : tree.ViewTree) (a : Accepted) (r : Result Query TypeFault) → typed v ≡ r → Ok a ≡ by_typing v r → typed v ≡ Ok a.query
typed_as v a (Ok q) e is = e ∙ ap Ok (ap query_in (sym is))
  where
    query_in : DefinitionOrRefusal → Query
    query_in (Ok b) = b.query
    query_in (Err fields) = q
typed_as v a (Err f) e is = absurd (cc)

read_of_profile : (bytes : List ℕ) (a : Accepted) (d : DefinitionOrRefusal) → d ≡ Ok a → ReadsAs bytes d → IsViewOfProfile a.query
unfolding ReadsAs typed_or_refused
read_of_profile bytes a d is (inl (v, read, e)) = profile v a.query (typed_as v a (typed v) refl (sym is ∙ e)) (read_is_written bytes v read)
read_of_profile bytes a d is (inr (f, some, refused, e)) = absurd (cc)

pub definition_of_profile : (name : Text) (o : Option (List ℕ)) (a : Accepted) → IsDefinition name o (Ok a) → IsViewOfProfile a.query
definition_of_profile name None a h = absurd (cc)
definition_of_profile name (Some bytes) a h = read_of_profile bytes a (Ok a) refl h

-- an answer of a view of the profile that is not refused takes its tables along
module _ (saves : Bool) (o : OpenValue) (p : IsViewOfProfile o.session.query) (unrefused : refusal_of o.session.catalogue o.session.query ≡ None) where
  -- a script takes the tables to those over another catalogue
  scripted : (c : CatalogueValue) → refusal_of c o.session.query ≡ None → applied (shape_of o.session.query) (tables_of o.session) (lines_to o.session c) ≡ Ok (meaning c o.session.query)
  scripted c after_it =
      script_applies (shape_of o.session.query) (tables_of o.session) (meaning c o.session.query) (meaning_in_order o.session.catalogue o.session.query) (meaning_in_order c o.session.query)
      (meaning_fits_form o.session.query p o.session.catalogue unrefused) (meaning_fits_form o.session.query p c after_it)

  takes_on : (a : Answer) (said : Said) → MayGive saves o a said → TakesBy (shape_of o.session.query) (tables_of o.session) (tables_of a.view.session) said
  takes_on a Tells h = rw (h.alike.catalogue, h.alike.query) refl
  takes_on a (Scripts lines) h = rw (h.script, h.prints.alike.catalogue, h.prints.alike.query) (scripted (after_all o.session.catalogue h.changes) h.unrefused)
  takes_on a Syncs h = let alike = sync_alike saves o a.view h.alike in rw (alike.catalogue, alike.query) refl

pub each_takes : (saves : Bool) (answers : List Answer) (o : OpenValue) → AreGiven saves o answers → IsViewOfProfile o.session.query → refusal_of o.session.catalogue o.session.query ≡ None → EachTakes o answers
each_takes saves [] o are p unrefused = tt
each_takes saves (a ∷ answers) o are p unrefused = (
  takes_on saves o p unrefused a a.said are.0,
  each_takes saves answers a.view are.1 (subst IsViewOfProfile (sym (first_query saves o a are.0)) p) (first_unrefused saves o a are.0 unrefused),
)
