-- The verdict of a view is its refusal or its tables, which fit its form and are in order.
use Rattle.std.proofs.Common.{◌≡◌, ◌≤◌, ◌∷◌, ◌∙◌, ℕ, Bool, true, [], List, Option, None, Some, Result, Ok, Err, refl, sym, ap, subst, length, arith}
use Rattle.std.specs.Prelude.{unwrap_or, is_some, option_map, IfOk, OnOk}
use Rattle.std.specs.Option.{ForSome}
use Rattle.ss_text.specs.Texts.{Text}
use Rattle.ss_text.proofs.GroupLemmas.{all_weaker}
use Rattle.schema_model.specs.Catalogue.{CatalogueValue}
use Rattle.schema_model.specs.Changes.{after, after_all}
use Rattle.schema_model.specs.Refusals.{fault, group_fault}
use Rattle.schema_model.specs.declared.change.Change.{Change}
use Rattle.view_def.specs.Query.{Query}
use Rattle.view_def.specs.Profile.{IsViewOfProfile}
use Rattle.flow_law.specs.declared.refused.Clash.{Clash}
use Rattle.flow_law.specs.declared.refused.IllegalLabel.{IllegalLabel}
use Rattle.flow_law.specs.FactRows.{IsFactOf}
use Rattle.flow_law.specs.Facts.{Fact, illegal, conflict, first_refusal, refusal_by}
use Rattle.flow_law.specs.InOrder.{AreTables}
use Rattle.flow_law.specs.Script.{script}
use Rattle.flow_law.specs.Tables.{TablesValue}
use Rattle.flow_law.specs.declared.line.TableLine.{TableLine}
use Rattle.change_script.specs.Fits.{IsForm, TablesFit}
use Rattle.change_script.proofs.FitLemmas.{FactFits, tables_fit}
use Rattle.view_meaning.specs.Meaning.{facts, meaning, shape_of}
use Rattle.view_meaning.specs.Refusal.{refusal}
use Rattle.flow_law.specs.declared.refused.EvalFault.{EvalFault}
use Rattle.flow_law.specs.declared.refused.EvalFault.TheVariants as eval
use Rattle.flow_law.specs.Faults.{IsFault}
use Rattle.view_engine.proofs.FactsForm.{have_form, legal_label}
use Rattle.apply_law.specs.Verdicts.{Verdict, Makes, IsIllegal, Clashes, tables_in, IsScriptTo, IsGroupRefused, all_refused}
use Rattle.apply_law.specs.declared.refused.GroupRefused.{GroupRefused}
use Rattle.view_session.specs.Session.{IsRefusedOver}
use Rattle.view_session.specs.Verdicts.{verdict_of, first_refused}
use Rattle.view_session.specs.declared.fault.Refused.{Refused}
use Rattle.view_session.specs.declared.fault.Refused.TheVariants as refused
use Rattle.view_session.proofs.UpkeepLemmas.{meaning_in_order}

-- what is made of a label that is not legal or of a conflict, and the verdict
module _ (v : Verdict) where
  made_none : (i : Option IllegalLabel) (k : Option Clash) → first_refusal eval.Illegal eval.Conflict i k ≡ None → unwrap_or (first_refusal IsIllegal Clashes i k) v ≡ v
  made_none None None h = refl
  made_none (Some l) k h = absurd (cc)
  made_none None (Some c) h = absurd (cc)

  made_illegal : (i : Option IllegalLabel) (k : Option Clash) (label : IllegalLabel) → first_refusal eval.Illegal eval.Conflict i k ≡ Some (eval.Illegal label) → unwrap_or (first_refusal IsIllegal Clashes i k) v ≡ IsIllegal label
  made_illegal None None label h = absurd (cc)
  made_illegal (Some l) k label h = let same : l ≡ label = cc in ap IsIllegal same
  made_illegal None (Some c) label h = absurd (cc)

  made_clash : (i : Option IllegalLabel) (k : Option Clash) (clash : Clash) → first_refusal eval.Illegal eval.Conflict i k ≡ Some (eval.Conflict clash) → unwrap_or (first_refusal IsIllegal Clashes i k) v ≡ Clashes clash
  made_clash None None clash h = absurd (cc)
  made_clash (Some l) k clash h = absurd (cc)
  made_clash None (Some c) clash h = let same : c ≡ clash = cc in ap Clashes same

module _ (q : Query) (c : CatalogueValue) where
  pub verdict_made : refusal c q ≡ None → verdict_of q c ≡ Makes (meaning c q)
  unfolding refusal refusal_by
  verdict_made h = made_none (Makes (meaning c q)) (illegal (shape_of q) (facts c q)) (conflict (facts c q)) h

  verdict_illegal : (label : IllegalLabel) → refusal c q ≡ Some (eval.Illegal label) → verdict_of q c ≡ IsIllegal label
  unfolding refusal refusal_by
  verdict_illegal label h = made_illegal (Makes (meaning c q)) (illegal (shape_of q) (facts c q)) (conflict (facts c q)) label h

  verdict_clash : (clash : Clash) → refusal c q ≡ Some (eval.Conflict clash) → verdict_of q c ≡ Clashes clash
  unfolding refusal refusal_by
  verdict_clash clash h = made_clash (Makes (meaning c q)) (illegal (shape_of q) (facts c q)) (conflict (facts c q)) clash h

-- a script to the view's tables is one to its verdict
pub script_to : (r : Result (List TableLine) GroupRefused) (q : Query) (o c : CatalogueValue) → refusal o q ≡ None → IfOk r (λ lines. lines ≡ script (meaning o q) (meaning c q)) → OnOk r (refusal c q ≡ None) → IfOk r (IsScriptTo (tables_in (verdict_of q o)) (verdict_of q c))
script_to (Ok lines) q o c own h allowed =
    subst (λ (v : Verdict). IsScriptTo (tables_in (verdict_of q o)) v lines) (sym (verdict_made q c allowed))
    (h ∙ ap (λ (ts : TablesValue). script ts (meaning c q)) (sym (ap tables_in (verdict_made q o own))))
script_to (Err e) q o c own h allowed = tt

-- one change is refused as the first of a list, and a list as a group
no_first : (c : CatalogueValue) (g : Change) → fault c g ≡ None → group_fault c (g ∷ []) ≡ None
no_first c g h = rw h refl

pub one_refused : (c : CatalogueValue) (q : Query) (g : Change) (e : Refused) → IsRefusedOver c q g e → IsGroupRefused (verdict_of q) c (g ∷ []) (first_refused e)
one_refused c q g (refused.Change r) h = rw h refl
one_refused c q g (refused.Illegal label) h = (no_first c g h.0, verdict_illegal q (after c g) label h.1)
one_refused c q g (refused.Conflict clash) h = (no_first c g h.0, verdict_clash q (after c g) clash h.1)
one_refused c q g refused.NoMemory h = tt

pub group_refused : (c : CatalogueValue) (q : Query) (gs : List Change) (e : EvalFault) → group_fault c gs ≡ None → IsFault (refusal (after_all c gs) q) e → IsGroupRefused (verdict_of q) c gs (all_refused e)
group_refused c q gs (eval.Illegal label) accepted h = (accepted, verdict_illegal q (after_all c gs) label h)
group_refused c q gs (eval.Conflict clash) accepted h = (accepted, verdict_clash q (after_all c gs) clash h)
group_refused c q gs eval.NoMemory accepted h = tt

-- the form of a view of the profile, and the facts that fit it
module _ (q : Query) (p : IsViewOfProfile q) where
  spot_within : (o : Option ℕ) → ForSome o (λ s. s ≤ length q.constants) → unwrap_or o (length q.constants) ≤ length q.constants
  spot_within None h = omega arith
  spot_within (Some s) h = h s refl

  pub form_of_view : IsForm (shape_of q)
  form_of_view = record { distinct = p.constants; spot = spot_within q.spot p.spot }

  column_there : (cell : Option (Text × Text)) (b : Bool) (column : Text) → is_some cell ≡ b → option_map (λ (x : Text × Text). x.0) cell ≡ Some column → b ≡ true
  column_there (Some cell) b column has is = sym has
  column_there None b column has is = absurd (cc)

  fact_fits : (f : Fact) → IsFactOf (shape_of q) f → FactFits (shape_of q) f
  fact_fits f h = record { key = h.key; cell = λ column is. column_there f.cell (is_some q.spot) column h.cell is }

  -- the tables of a verdict fit the form and are in order
  module _ (c : CatalogueValue) where
    fits_where : (i : Option IllegalLabel) (k : Option Clash) (ts : TablesValue) → illegal (shape_of q) (facts c q) ≡ i → unwrap_or (first_refusal IsIllegal Clashes i k) (Makes (meaning c q)) ≡ Makes ts → TablesFit (shape_of q) ts
    unfolding meaning
    fits_where None None ts none h =
        let same : meaning c q ≡ ts = cc in
        subst (λ (us : TablesValue). TablesFit (shape_of q) us) same
        (tables_fit (shape_of q) (facts c q) (λ label e. legal_label q.decls q.label label p.label e) none (all_weaker (IsFactOf (shape_of q)) (FactFits (shape_of q)) fact_fits (facts c q) (have_form c q p)))
    fits_where (Some l) k ts none h = absurd (cc)
    fits_where None (Some clash) ts none h = absurd (cc)

    pub verdict_fits : (ts : TablesValue) → verdict_of q c ≡ Makes ts → TablesFit (shape_of q) ts
    unfolding refusal_by
    verdict_fits ts h = fits_where (illegal (shape_of q) (facts c q)) (conflict (facts c q)) ts refl h

pub verdict_in_order : (q : Query) (c : CatalogueValue) (ts : TablesValue) → verdict_of q c ≡ Makes ts → AreTables ts
unfolding refusal_by
verdict_in_order q c ts h = in_order (illegal (shape_of q) (facts c q)) (conflict (facts c q)) h
  where
    in_order : (i : Option IllegalLabel) (k : Option Clash) → unwrap_or (first_refusal IsIllegal Clashes i k) (Makes (meaning c q)) ≡ Makes ts → AreTables ts
    in_order None None h = let same : meaning c q ≡ ts = cc in subst AreTables same (meaning_in_order c q)
    in_order (Some l) k h = absurd (cc)
    in_order None (Some clash) h = absurd (cc)
