-- Levels that stay over one another.
use Rattle.std.proofs.Common.{◌≡◌, ◌≤◌, ◌+◌, ◌∙◌, ℕ, zero, suc, List, [], ◌∷◌, None, map, length, drop, refl, sym, ap, subst, arith}
use Rattle.std.specs.Prelude.{option_map}
use Rattle.ss_text.specs.Texts.{Text}
use Rattle.flow_law.specs.Script.{script}
use Rattle.flow_law.specs.Tables.{TablesValue}
use Rattle.flow_law.specs.InOrder.{AreTables}
use Rattle.flow_law.specs.declared.line.TableLine.{TableLine}
use Rattle.change_script.specs.Fits.{IsForm, TablesFit}
use Rattle.schema_model.specs.Catalogue.{CatalogueValue}
use Rattle.schema_model.specs.Changes.{after_all}
use Rattle.schema_model.specs.Refusals.{group_fault}
use Rattle.schema_model.specs.Sound.{IsSound}
use Rattle.schema_model.specs.declared.change.Change.{Change}
use Rattle.schema_model.specs.declared.refusal.Refusal.TheVariants.{Limit}
use Rattle.schema_model.proofs.SoundAfter.{sound_after_all}
use Rattle.view_meaning.specs.Orders.{DifferInOrder}
use Rattle.apply_law.specs.Standing.{Standing, Waiting, Proposes, tables_of, verdict_after}
use Rattle.apply_law.specs.Verdicts.{Verdict, Makes, IsIllegal, Clashes, tables_in, IsScriptTo}
use Rattle.apply_law.specs.declared.refused.GroupRefused.{GroupRefused}
use Rattle.apply_law.specs.declared.refused.GroupRefused.TheVariants as refused
use Rattle.view_stack.specs.Stands.{catalogue_for, stands}
use Rattle.view_stack.specs.Limits.{lifted_limit}
use Rattle.view_stack.specs.Lifted.{lifted}
use Rattle.view_stack.specs.Stacks.{AreStacked, changes_above, Takes, AreTaken, made_all, IsStackRefused, AreProposed, IsLifted, LiftsAbove, HaveProposed, IsLiftRefused}
use Rattle.view_stack.proofs.LawLemmas.{lift_law, limit_law}
use Rattle.view_stack.proofs.CodeLemmas.{lifted_well_formed}
use Rattle.view_stack.proofs.SoundLemmas.{stands_sound}

-- what the script of a level comes to at the level above
module _ (s t : Standing) (name : Text) (gs : List Change) (lines : List TableLine) (form : IsForm s.shape) (some : 1 ≤ length s.shape.constants)
    (fits : (c : CatalogueValue) (ts : TablesValue) → s.verdict c ≡ Makes ts → TablesFit s.shape ts) (order : (c : CatalogueValue) (ts : TablesValue) → s.verdict c ≡ Makes ts → AreTables ts)
    (now : s.verdict s.catalogue ≡ Makes (tables_of s)) (sound : IsSound t.catalogue) (over : stands name s.shape (tables_of s) t.catalogue)
    (same : (c d : CatalogueValue) → IsSound c → IsSound d → DifferInOrder c d → t.verdict c ≡ t.verdict d) where
  abbrev above : List TableLine → List Change
  above ls = lifted name s.shape.constants (tables_of s) t.catalogue ls

  -- where the tables after changes are these
  module _ (new : TablesValue) (made_is : verdict_after s gs ≡ Makes new) where
    order_then : AreTables new
    order_then = order (after_all s.catalogue gs) new made_is

    fits_then : TablesFit s.shape new
    fits_then = fits (after_all s.catalogue gs) new made_is

    over_then : stands name s.shape new (after_all t.catalogue (above (script (tables_of s) new)))
    over_then = lift_law s.shape name t.catalogue (tables_of s) new form sound (order s.catalogue (tables_of s) now) order_then (fits s.catalogue (tables_of s) now) fits_then over

    limit_is : group_fault t.catalogue (above (script (tables_of s) new)) ≡ option_map Limit (lifted_limit name s.shape (tables_of s) (script (tables_of s) new))
    limit_is = limit_law s.shape name t.catalogue (tables_of s) new form sound (order s.catalogue (tables_of s) now) order_then (fits s.catalogue (tables_of s) now) fits_then over some

    verdict_is : group_fault t.catalogue (above (script (tables_of s) new)) ≡ None → verdict_after t (above (script (tables_of s) new)) ≡ t.verdict (catalogue_for name s.shape new)
    verdict_is none =
        let after_sound = sound_after_all t.catalogue (above (script (tables_of s) new)) sound (lifted_well_formed name s.shape.constants (tables_of s) t.catalogue some (script (tables_of s) new) (above (script (tables_of s) new)) refl) none in
        same (after_all t.catalogue (above (script (tables_of s) new))) (catalogue_for name s.shape new) after_sound
        (stands_sound s.shape form some name (after_all t.catalogue (above (script (tables_of s) new))) new after_sound order_then fits_then over_then) over_then

    are_lifted : IsLifted name s t gs (script (tables_of s) new)
    are_lifted = record {
      over = subst (λ (v : Verdict). stands name s.shape (tables_in v) (after_all t.catalogue (above (script (tables_of s) new)))) (sym made_is) over_then;
      limit = limit_is;
      verdict = λ none. verdict_is none ∙ ap (λ (v : Verdict). t.verdict (catalogue_for name s.shape (tables_in v))) (sym made_is);
    }

  pub lifts_then : IsScriptTo (tables_of s) (verdict_after s gs) lines → IsLifted name s t gs lines
  lifts_then is = by_verdict (verdict_after s gs) refl is
    where
      by_verdict : (v : Verdict) → verdict_after s gs ≡ v → IsScriptTo (tables_of s) v lines → IsLifted name s t gs lines
      by_verdict (Makes new) e script_is = subst (λ (ls : List TableLine). IsLifted name s t gs ls) (sym script_is) (are_lifted new e)
      by_verdict (IsIllegal label) e script_is = absurd script_is
      by_verdict (Clashes clash) e script_is = absurd script_is

-- levels of which all have proposed are stacked after it, where the one above the first stands for its tables
stacked_then : (s : Standing) (levels : List Standing) (names : List Text) (gs : List Change) (lines : List TableLine) (all : List (List TableLine)) (ws : List Waiting)
    → AreStacked (s ∷ levels) names → LiftsAbove names s levels gs lines → AreProposed levels (drop 1 names) (changes_above names s levels lines) all ws
    → AreStacked (made_all levels (drop 1 names) (changes_above names s levels lines) all) (drop 1 names)
    → AreStacked (made_all (s ∷ levels) names gs (lines ∷ all)) names
stacked_then s [] names gs lines all ws h lifts proposed rest = tt
stacked_then s (t ∷ levels) [] gs lines all ws h lifts proposed rest = absurd h
stacked_then s (t ∷ levels) (name ∷ names) gs lines [] ws h lifts proposed rest = absurd proposed
stacked_then s (t ∷ levels) (name ∷ names) gs lines (more ∷ all) ws h lifts proposed rest = (lifts.over, rest)

-- ---- the first level has proposed
-- what its lines come to, as its standing is the same
lifts_first : (s t : Standing) (levels : List Standing) (names : List Text) (gs : List Change) (lines : List TableLine) → t ≡ s → Takes s gs lines → (Takes t gs lines → LiftsAbove names t levels gs lines) → LiftsAbove names s levels gs lines
lifts_first s t levels names gs lines same takes lifts = subst (λ (x : Standing). LiftsAbove names x levels gs lines) same (lifts (subst (λ (x : Standing). Takes x gs lines) (sym same) takes))

never_zero : (levels : List Standing) (names : List Text) (gs : List Change) (why : GroupRefused) → IsLiftRefused levels names gs zero why → ⊥
never_zero [] names gs why h = h
never_zero (s ∷ levels) names gs why h = h

-- and those above it have proposed, or one of them refuses
module _ {X : Type 0} (state : X → Standing) (propose : X → List Change → X) where
  pub none_proposed : (waits : X → Waiting) (levels : List X) (names : List Text) (gs : List Change) → length levels ≡ 0 → HaveProposed state propose levels levels names gs [] (map waits levels)
  none_proposed waits [] names gs none = record { proposed = (refl, refl); stacked = tt; lifts = tt; values = refl }
  none_proposed waits (x ∷ xs) names gs none = absurd (omega (arith, none))

  pub one_proposed : (levels rest rest_new : List X) (first first_new : X) (names behind : List Text) (gs above : List Change) (lines : List TableLine) (more : List (List TableLine)) (w : Waiting) (ws : List Waiting)
      → levels ≡ first ∷ rest → first_new ≡ propose first gs → state first_new ≡ state first → behind ≡ drop 1 names → above ≡ changes_above names (state first_new) (map state rest) lines
      → AreStacked (map state levels) names → w ≡ Proposes gs → Takes (state first) gs lines
      → (Takes (state first_new) gs lines → LiftsAbove names (state first_new) (map state rest) gs lines)
      → HaveProposed state propose rest rest_new behind above more ws
      → HaveProposed state propose levels (first_new ∷ rest_new) names gs (lines ∷ more) (w ∷ ws)
  one_proposed levels rest rest_new first first_new names behind gs above lines more w ws are is same behind_is lifted_is stacked proposes takes lifts have =
      subst (λ (ls : List X). HaveProposed state propose ls (first_new ∷ rest_new) names gs (lines ∷ more) (w ∷ ws)) (sym are) (record {
        proposed = (proposes, takes, there.proposed);
        stacked = stacked_then (state first) (map state rest) names gs lines more ws (subst (λ (ls : List X). AreStacked (map state ls) names) are stacked) lifts_now there.proposed there.stacked;
        lifts = (lifts_now, there.lifts);
        values = λ i. is i ∷ there.values i;
      })
    where
      above_is : above ≡ changes_above names (state first) (map state rest) lines
      above_is = lifted_is ∙ ap (λ (x : Standing). changes_above names x (map state rest) lines) same

      there : HaveProposed state propose rest rest_new (drop 1 names) (changes_above names (state first) (map state rest) lines) more ws
      there = subst (λ (hs : List Change). HaveProposed state propose rest rest_new (drop 1 names) hs more ws) above_is (subst (λ (ns : List Text). HaveProposed state propose rest rest_new ns above more ws) behind_is have)

      lifts_now : LiftsAbove names (state first) (map state rest) gs lines
      lifts_now = lifts_first (state first) (state first_new) (map state rest) names gs lines same takes lifts

  pub one_refused : (levels rest : List X) (first first_new : X) (names behind : List Text) (gs above : List Change) (lines : List TableLine) (k level : ℕ) (why : GroupRefused)
      → levels ≡ first ∷ rest → state first_new ≡ state first → behind ≡ drop 1 names → above ≡ changes_above names (state first_new) (map state rest) lines → Takes (state first) gs lines
      → (Takes (state first_new) gs lines → LiftsAbove names (state first_new) (map state rest) gs lines) → level ≡ k + 1 → IsLiftRefused (map state rest) behind above k why
      → IsLiftRefused (map state levels) names gs level why
  one_refused levels rest first first_new names behind gs above lines k level why are same behind_is lifted_is takes lifts more refused =
      let number : suc k ≡ level = omega (arith, more) in
      subst (λ (n : ℕ). IsLiftRefused (map state levels) names gs n why) number
      (subst (λ (ls : List X). IsLiftRefused (map state ls) names gs (suc k) why) (sym are) (by_level k there))
    where
      there : IsLiftRefused (map state rest) (drop 1 names) (changes_above names (state first) (map state rest) lines) k why
      there = subst (λ (hs : List Change). IsLiftRefused (map state rest) (drop 1 names) hs k why) (lifted_is ∙ ap (λ (x : Standing). changes_above names x (map state rest) lines) same)
          (subst (λ (ns : List Text). IsLiftRefused (map state rest) ns above k why) behind_is refused)

      by_level : (j : ℕ) → IsLiftRefused (map state rest) (drop 1 names) (changes_above names (state first) (map state rest) lines) j why → IsLiftRefused (state first ∷ map state rest) names gs (suc j) why
      by_level zero h = absurd (never_zero (map state rest) (drop 1 names) (changes_above names (state first) (map state rest) lines) why h)
      by_level (suc j) h = (lines, takes, lifts_first (state first) (state first_new) (map state rest) names gs lines same takes lifts, h)

  -- there is no memory for what its lines come to
  pub one_without_memory : (levels rest : List X) (first first_new : X) (names : List Text) (gs : List Change) (lines : List TableLine)
      → levels ≡ first ∷ rest → state first_new ≡ state first → Takes (state first) gs lines
      → (Takes (state first_new) gs lines → LiftsAbove names (state first_new) (map state rest) gs lines) → 1 ≤ length rest
      → IsLiftRefused (map state levels) names gs 2 refused.NoMemory
  one_without_memory levels [] first first_new names gs lines are same takes lifts some = absurd (omega (arith, some))
  one_without_memory levels (second ∷ rest) first first_new names gs lines are same takes lifts some =
      subst (λ (ls : List X). IsLiftRefused (map state ls) names gs 2 refused.NoMemory) (sym are)
      (lines, takes, lifts_first (state first) (state first_new) (map state (second ∷ rest)) names gs lines same takes lifts, tt)

pub all_taken : (levels : List Standing) (names : List Text) (gs : List Change) (all : List (List TableLine)) (ws : List Waiting) → AreProposed levels names gs all ws → AreTaken levels names gs all
all_taken [] names gs all ws p = p.0
all_taken (s ∷ levels) names gs [] ws p = absurd p
all_taken (s ∷ levels) names gs (lines ∷ all) [] p = absurd p
all_taken (s ∷ levels) names gs (lines ∷ all) (w ∷ ws) p = (p.1, all_taken levels (drop 1 names) (changes_above names s levels lines) all ws p.2)

-- want of memory before all is the first level's
pub no_memory : (levels : List Standing) (names : List Text) (gs : List Change) → 1 ≤ length levels → IsStackRefused levels names gs 1 refused.NoMemory
no_memory [] names gs some = absurd (omega (arith, some))
no_memory (s ∷ levels) names gs some = tt
