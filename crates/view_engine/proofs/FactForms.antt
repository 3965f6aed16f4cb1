-- The facts of a view over a catalogue, as what its tables keep.
use Rattle.std.proofs.Common.{◌≡◌, ◌<◌, ℕ, List, [], ◌∷◌, Option, Some, None, refl, sym, ◌∙◌, ap, subst, length}
use Rattle.std.specs.Prelude.{◌^◌}
use Rattle.std.specs.List.{AllByRecursion}
use Rattle.std.proofs.lemmas.List.Elements.{All-from_recursion}
use Rattle.ss_text.specs.Texts.{Text, Row}
use Rattle.schema_model.specs.Catalogue.{CatalogueValue}
use Rattle.schema_model.specs.Sound.{IsSound}
use Rattle.view_def.specs.Query.{Query}
use Rattle.view_def.specs.Profile.{IsViewOfProfile}
use Rattle.flow_law.specs.declared.shape.Shape.{Shape}
use Rattle.flow_law.specs.declared.line.TableLine.{TableLine}
use Rattle.flow_law.specs.declared.refused.IllegalLabel.{IllegalLabel}
use Rattle.flow_law.specs.declared.refused.Clash.{Clash}
use Rattle.flow_law.specs.declared.refused.EvalFault.{EvalFault}
use Rattle.flow_law.specs.Facts.{Fact, illegal, conflict, first_refusal, refusal_by}
use Rattle.flow_law.specs.FactRows.{fact_width, fact_in}
use Rattle.flow_law.specs.Labelled.{BearLabel}
use Rattle.flow_law.specs.Script.{script}
use Rattle.flow_law.specs.Faults.{IsFaultOf}
use Rattle.view_meaning.specs.Meaning.{facts, meaning, shape_of}
use Rattle.view_meaning.specs.Refusal.{refusal}
use Rattle.view_meaning.proofs.EvalLemmas.{bear}
use Rattle.view_engine.proofs.FactsFew.{facts_few}
use Rattle.view_engine.proofs.FactsForm.{have_form, read_back, are_wide}
use Rattle.operator_law.specs.declared.delta.Signed.{Signed}
use Rattle.operator_law.specs.Bags.{MovesBag}
use Rattle.schema_delta.specs.Net.{IsNet}
use Rattle.plan_law.specs.PlanMoves.{fact_rows}
use Rattle.plan_translate.specs.Moves.{MovesFacts}
use Rattle.unfold_op.specs.FactMoves.{facts_in, facts_moved}
use Rattle.unfold_op.proofs.BagMoves.{facts_length}
use Rattle.split_op.specs.Tables.{ScriptLines}
use Rattle.view_engine.specs.Forms.{CanKeepTables, MovesForm}
use Rattle.view_engine.specs.Engines.{IsViewFault}
use Rattle.view_engine.proofs.NetRows.{rows_moved}

-- a view is refused for no facts that have neither an illegal label nor a conflict, and only for such
neither : {A : Type 0} (label : IllegalLabel → A) (clash : Clash → A) (l : Option IllegalLabel) (k : Option Clash) → first_refusal label clash l k ≡ None → (l ≡ None) × (k ≡ None)
neither label clash None None e = (refl, refl)
neither label clash None (Some k) e = absurd (cc)
neither label clash (Some l) k e = absurd (cc)

allowed_facts : (c : CatalogueValue) (q : Query) → refusal c q ≡ None → (illegal (shape_of q) (facts c q) ≡ None) × (conflict (facts c q) ≡ None)
unfolding refusal refusal_by
allowed_facts c q e = neither _ _ _ _ e

facts_allowed : (c : CatalogueValue) (q : Query) → illegal (shape_of q) (facts c q) ≡ None → conflict (facts c q) ≡ None → refusal c q ≡ None
unfolding refusal refusal_by
facts_allowed c q l k = rw (l, k) refl

-- each row's fact bears the constant label, where there is one
bears_rows : (shape : Shape) (o : Option Text) (rows : List Row) → BearLabel o (facts_in shape rows) → AllByRecursion (λ (row : Row). BearLabel o (fact_in shape row ∷ [])) rows
bears_rows shape o [] h = tt
bears_rows shape None (row ∷ rows) h = (tt, bears_rows shape None rows tt)
bears_rows shape (Some label) (row ∷ rows) h = ((h.0, tt), bears_rows shape (Some label) rows h.1)

bears_moved : (shape : Shape) (o : Option Text) (ms : List Signed) → AllByRecursion (λ (m : Signed). BearLabel o (fact_in shape m.row ∷ [])) ms → BearLabel o (facts_moved shape ms)
bears_moved shape None ms h = tt
bears_moved shape (Some label) [] h = tt
bears_moved shape (Some label) (m ∷ ms) h = (h.0.0, bears_moved shape (Some label) ms h.1)

-- moves in net between rows of such facts
form_moves : (shape : Shape) (ms : List Signed) (old new : List Row) → MovesBag old ms new → IsNet ms
    → AllByRecursion (λ (row : Row). length row ≡ fact_width shape) old → AllByRecursion (λ (row : Row). length row ≡ fact_width shape) new
    → BearLabel shape.label (facts_in shape old) → BearLabel shape.label (facts_in shape new) → length new < 2 ^ 128 → MovesForm shape ms old new
form_moves shape ms old new moves net wide_old wide_new bear_old bear_new few = record {
  wide = All-from_recursion (λ (m : Signed). length m.row ≡ fact_width shape) ms (rows_moved (λ (row : Row). length row ≡ fact_width shape) old new ms moves net wide_old wide_new);
  bear = bears_moved shape shape.label ms (rows_moved (λ (row : Row). BearLabel shape.label (fact_in shape row ∷ [])) old new ms moves net (bears_rows shape shape.label old bear_old) (bears_rows shape shape.label new bear_new));
  bear_new = bear_new;
  moves = moves;
  few = few;
}

module _ (c : CatalogueValue) (q : Query) (profile : IsViewOfProfile q) where
  pub in_rows : facts_in (shape_of q) (fact_rows c q) ≡ facts c q
  in_rows = read_back (shape_of q) (facts c q) (have_form c q profile)

  wide_rows : AllByRecursion (λ (row : Row). length row ≡ fact_width (shape_of q)) (fact_rows c q)
  wide_rows = are_wide (shape_of q) (facts c q) (have_form c q profile)

  bear_rows : BearLabel (shape_of q).label (facts_in (shape_of q) (fact_rows c q))
  bear_rows = subst (BearLabel (shape_of q).label) (sym in_rows) (bear c q (shape_of q) refl (facts c q) refl)

  few_rows : IsSound c → length (fact_rows c q) < 2 ^ 128
  few_rows sound = subst (λ (n : ℕ). n < 2 ^ 128) (ap length (sym in_rows) ∙ facts_length (shape_of q) (fact_rows c q)) (facts_few c q sound profile)

  pub can_keep : IsSound c → refusal c q ≡ None → CanKeepTables (shape_of q) (fact_rows c q)
  can_keep sound allowed =
      let both = allowed_facts c q allowed in
      record { few = few_rows sound; legal = ap (illegal (shape_of q)) in_rows ∙ both.0; clean = ap conflict in_rows ∙ both.1; bear = bear_rows }

  pub stop_rows : (s : EvalFault) → IsFaultOf (shape_of q) (facts_in (shape_of q) (fact_rows c q)) s → IsViewFault c q s
  stop_rows s h = subst (λ (fs : List Fact). IsFaultOf (shape_of q) fs s) in_rows h

module _ (c c' : CatalogueValue) (q : Query) (profile : IsViewOfProfile q) where
  pub move_form : IsSound c' → (ms : List Signed) → MovesFacts c c' q ms → MovesForm (shape_of q) ms (fact_rows c q) (fact_rows c' q)
  move_form sound ms h =
      form_moves (shape_of q) ms (fact_rows c q) (fact_rows c' q) h.moved h.net (wide_rows c q profile) (wide_rows c' q profile) (bear_rows c q profile) (bear_rows c' q profile) (few_rows c' q profile sound)

  pub between : (lines : List TableLine) → ScriptLines (shape_of q) lines (facts_in (shape_of q) (fact_rows c q)) (facts_in (shape_of q) (fact_rows c' q)) → (refusal c' q ≡ None) × (lines ≡ script (meaning c q) (meaning c' q))
  unfolding meaning
  between lines s =
      let t = subst (λ (fs : List Fact). ScriptLines (shape_of q) lines fs (facts_in (shape_of q) (fact_rows c' q))) (in_rows c q profile) s in
      let u = subst (λ (fs : List Fact). ScriptLines (shape_of q) lines (facts c q) fs) (in_rows c' q profile) t in
      (facts_allowed c' q u.legal u.clean, u.lines_are)
