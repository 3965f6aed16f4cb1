-- Levels that took changes, or refused them.
use Rattle.std.proofs.Common.{◌≡◌, ◌<◌, ◌∙◌, ◌∷◌, ◌++◌, ◌+◌, ℕ, zero, suc, List, [], Option, None, map, drop, inl, inr, refl, sym, ap, subst, arith}
use Rattle.std.specs.Prelude.{option_map}
use Rattle.ss_text.specs.Texts.{Text, text_cmp}
use Rattle.ss_text.specs.Ascending.{ascending}
use Rattle.schema_model.specs.Catalogue.{CatalogueValue}
use Rattle.schema_model.specs.Changes.{after, after_all}
use Rattle.schema_model.specs.Refusals.{group_fault}
use Rattle.schema_model.specs.declared.change.Change.{Change}
use Rattle.schema_model.specs.declared.refusal.Refusal.{Refusal}
use Rattle.schema_model.specs.declared.refusal.Refusal.TheVariants.{NoDatabase, IllegalName, DatabaseThere, NoRelation, RelationThere, NoAttribute, AttributeThere, LastAttribute, ArityDiffers, NoRow, Limit}
use Rattle.view_def.specs.Query.{Query}
use Rattle.flow_law.specs.Lines.{label_of}
use Rattle.flow_law.specs.Script.{script}
use Rattle.flow_law.specs.Tables.{TablesValue}
use Rattle.flow_law.specs.declared.line.TableLine.{TableLine}
use Rattle.view_meaning.specs.Meaning.{meaning}
use Rattle.apply_law.specs.Verdicts.{Makes, tables_in}
use Rattle.apply_law.specs.declared.refused.GroupRefused.{GroupRefused}
use Rattle.apply_law.specs.declared.refused.GroupRefused.TheVariants as group
use Rattle.view_session.specs.Named.{Names, with_change, with_changes, with_labels}
use Rattle.view_session.specs.Verdicts.{verdict_of}
use Rattle.view_stack.specs.Stacks.{IsStack, changes_above, Takes, AreTaken, IsStackRefused, proposing_all}
use Rattle.view_stack.specs.Told as tells
use Rattle.view_stack.specs.Told.{Cause, IsOver, IsTold, lowest, comes_to}
use Rattle.view_stack.specs.Stands.{given_by}
use Rattle.view_stack.proofs.ToldLemmas.{refusal_in, first_is}
use Rattle.stack_levels.specs.Levels.{changing_refusal}
use Rattle.stack_levels.specs.Values.{LevelValue, with_lines}
use Rattle.stack_levels.specs.States.{LevelState, level_standing, level_waiting, level_proposing, level_accepted, level_value, lowest_catalogue, lowest_names, databases_of, views_of, IsKept, AreLevels, told_as}
use Rattle.stack_levels.specs.Taking.{sources_named, HaveApplied, IsPassed, IsToldOf}
use Rattle.stack_levels.proofs.LevelLemmas.{makes_meaning, script_made, refusal_is, lines_are, kept_then}

-- ---- a level that took changes
-- changes name no labels
sources_stay : (n : Names) (labels : List Text) (c : CatalogueValue) (gs : List Change) → with_changes (with_labels labels n) c gs ≡ with_labels labels (with_changes n c gs)
sources_stay n labels c [] = refl
sources_stay n labels c (g ∷ gs) = sources_stay (with_change n c g) labels (after c g) gs

module _ (l : LevelState) (gs : List Change) where
  abbrev view : Query
  view = l.session.query

  abbrev own : CatalogueValue
  own = l.session.catalogue

  abbrev valued : List Text → List TableLine → LevelValue
  valued labels lines = record { query = view; named = ascending text_cmp (labels ++ map label_of lines); synced = l.synced }

  -- its lines are the script from its tables to those of its view
  lines_taken : (lines : List TableLine) (ts : TablesValue) → verdict_of view own ≡ Makes ts → Takes (level_standing l) gs lines → lines ≡ script (meaning own view) (meaning (after_all own gs) view)
  lines_taken lines ts makes takes =
      script_made view (after_all own gs) (tables_in (verdict_of view own)) lines takes.1
      ∙ ap (λ (old : TablesValue). script old (meaning (after_all own gs) view)) (ap tables_in makes ∙ makes_meaning view own ts makes)

  value_taken : (lines : List TableLine) (ts : TablesValue) → verdict_of view own ≡ Makes ts → Takes (level_standing l) gs lines → level_value (level_accepted (level_proposing l gs)) ≡ valued l.session.changed.labels lines
  value_taken lines ts makes takes = λ i. valued ((sources_stay l.session.changed l.session.changed.labels own gs i).labels) (sym (lines_taken lines ts makes takes) i)

-- ---- levels that took changes
abbrev taking : List LevelState → List Text → List Change → List (List TableLine) → List LevelState
taking ls names gs all = map level_accepted (proposing_all level_standing level_proposing ls names gs all)

values_taken : (ls : List LevelState) (names : List Text) (gs : List Change) (all : List (List TableLine)) (c : CatalogueValue) → IsKept ls c → AreTaken (map level_standing ls) names gs all
    → map level_value (taking ls names gs all) ≡ with_lines (map level_value ls) all
values_taken [] names gs all c kept taken = refl
values_taken (l ∷ ls) names gs [] c kept taken = absurd taken
values_taken (l ∷ ls) names gs (lines ∷ all) c kept taken =
    λ i. value_taken l gs lines (meaning c l.session.query) kept.0 taken.0 i
    ∷ values_taken ls (drop 1 names) (changes_above names (level_standing l) (map level_standing ls) lines) all (given_by c l.session.query) kept.2 taken.1 i

-- their views stay
abbrev query_of : LevelValue → Query
query_of v = v.query

queries_stay : (vs : List LevelValue) (all : List (List TableLine)) → map query_of (with_lines vs all) ≡ map query_of vs
queries_stay [] all = refl
queries_stay (v ∷ vs) [] = refl
queries_stay (v ∷ vs) (lines ∷ all) = ap (λ (qs : List Query). v.query ∷ qs) (queries_stay vs all)

queries_are : (ls : List LevelState) → map query_of (map level_value ls) ≡ views_of ls
queries_are [] = refl
queries_are (l ∷ ls) = ap (λ (qs : List Query). l.session.query ∷ qs) (queries_are ls)

databases_are : (ls : List LevelState) → map (λ (q : Query). q.view_db) (views_of ls) ≡ databases_of ls
databases_are [] = refl
databases_are (l ∷ ls) = ap (λ (ns : List Text). l.session.query.view_db ∷ ns) (databases_are ls)

-- what is told of the lowest
record LowestTook (l : LevelState) (gs : List Change) (new : List LevelState) : Type 0 where
  catalogue : lowest_catalogue new ≡ after_all l.session.catalogue gs
  relations : (lowest_names new).relations ≡ (sources_named l.session.changed l.session.catalogue gs).relations
  databases : (lowest_names new).databases ≡ (sources_named l.session.changed l.session.catalogue gs).databases
  accepted : group_fault l.session.catalogue gs ≡ None

lowest_took : (l : LevelState) (ls : List LevelState) (names : List Text) (gs : List Change) (all : List (List TableLine)) → AreTaken (map level_standing (l ∷ ls)) names gs all → LowestTook l gs (taking (l ∷ ls) names gs all)
lowest_took l ls names gs [] taken = absurd taken
lowest_took l ls names gs (lines ∷ all) taken =
    let sources = sources_stay l.session.changed [] l.session.catalogue gs in
    record {
      catalogue = refl;
      relations = sym (ap (λ (n : Names). n.relations) sources);
      databases = sym (ap (λ (n : Names). n.databases) sources);
      accepted = taken.0.0;
    }

-- ---- what the stack of the levels tells where they take changes
pub record AreApplied (old new : List LevelState) (names : List Text) (gs : List Change) (all : List (List TableLine)) : Type 0 where
  pub taken : AreTaken (map level_standing old) names gs all
  pub lines : all ≡ tells.lines_over (map level_standing old) names (comes_to (map level_standing old) gs)
  pub unrefused : tells.first_refusal (map level_standing old) names (comes_to (map level_standing old) gs) ≡ None
  pub over : IsOver (map level_standing new) names (comes_to (map level_standing old) gs)
  pub levels : new ≡ taking old names gs all
  pub stack : IsStack (map level_standing new) (map level_waiting new) names

module _ (l : LevelState) (ls new : List LevelState) (gs : List Change) (all : List (List TableLine)) (are : AreLevels (l ∷ ls)) (h : AreApplied (l ∷ ls) new (databases_of (l ∷ ls)) gs all) where
  abbrev old : List LevelState
  old = l ∷ ls

  abbrev before : CatalogueValue
  before = l.session.catalogue

  abbrev later : CatalogueValue
  later = after_all before gs

  values : map level_value new ≡ with_lines (map level_value old) all
  values = ap (map level_value) h.levels ∙ values_taken old (databases_of old) gs all before are.kept h.taken

  views : views_of new ≡ views_of old
  views = sym (queries_are new) ∙ ap (map query_of) values ∙ queries_stay (map level_value old) all ∙ queries_are old

  databases : databases_of new ≡ databases_of old
  databases = sym (databases_are new) ∙ ap (map (λ (q : Query). q.view_db)) views ∙ databases_are old

  unrefused : changing_refusal before later (views_of old) ≡ None
  unrefused = sym (refusal_is old before later are.kept) ∙ ap (option_map told_as) h.unrefused

  took : LowestTook l gs new
  took = subst (LowestTook l gs) (sym h.levels) (lowest_took l ls (databases_of old) gs all h.taken)

  kept : IsKept new later
  kept = kept_then new before later (subst (λ (ns : List Text). IsOver (map level_standing new) ns later) (sym databases) h.over)
      (subst (λ (qs : List Query). changing_refusal before later qs ≡ None) (sym views) unrefused)

  some_applied : HaveApplied old new gs all
  some_applied = record {
    lines = h.lines ∙ lines_are old before later are.kept unrefused;
    accepted = took.accepted;
    unrefused = unrefused;
    taken = record { catalogue = took.catalogue; relations = took.relations; databases = took.databases; values = values };
    levels = record {
      stack = subst (λ (ns : List Text). IsStack (map level_standing new) (map level_waiting new) ns) (sym databases) h.stack;
      kept = subst (IsKept new) (sym took.catalogue) kept;
    };
    names = databases;
  }

applied_here : (old new : List LevelState) (gs : List Change) (all : List (List TableLine)) → AreLevels old → AreApplied old new (databases_of old) gs all → HaveApplied old new gs all
applied_here [] new gs all are h = let some = are.stack.some in absurd (omega (arith, some))
applied_here (l ∷ ls) new gs all are h = some_applied l ls new gs all are h

pub applied : (old new : List LevelState) (names : List Text) (gs : List Change) (all : List (List TableLine)) → AreLevels old → names ≡ databases_of old → AreApplied old new names gs all → HaveApplied old new gs all
applied old new names gs all are is h = applied_here old new gs all are (subst (λ (ns : List Text). AreApplied old new ns gs all) is h)

-- ---- levels that refuse changes
-- what is told of the levels is this of their views
module _ (c : CatalogueValue) (qs : List Query) (gs : List Change) (told : Option (ℕ × Cause)) (is : option_map told_as told ≡ changing_refusal c (after_all c gs) qs) (none : group_fault c gs ≡ None) where
  passed_told : (level : ℕ) (r : Refusal) → tells.IsPassed told level r → IsPassed c qs gs level r
  passed_told level (Limit which) h = (none, sym is ∙ ap (option_map told_as) h)
  passed_told level NoDatabase h = h
  passed_told level IllegalName h = h
  passed_told level DatabaseThere h = h
  passed_told level NoRelation h = h
  passed_told level RelationThere h = h
  passed_told level NoAttribute h = h
  passed_told level (AttributeThere place) h = h
  passed_told level LastAttribute h = h
  passed_told level (ArityDiffers want got) h = h
  passed_told level NoRow h = h

  above_told : (level : ℕ) (why : GroupRefused) → 1 < level → IsTold told level why → IsToldOf c qs gs level why
  above_told level (group.Change place r) above h = inr (above, passed_told level r h)
  above_told level (group.Illegal label) above h = (none, sym is ∙ ap (option_map told_as) h)
  above_told level (group.Conflict clash) above h = (none, sym is ∙ ap (option_map told_as) h)
  above_told level group.NoMemory above h = tt

refused_here : (ls : List LevelState) (gs : List Change) (level : ℕ) (why : GroupRefused) → AreLevels ls → IsStackRefused (map level_standing ls) (databases_of ls) gs level why
    → (group_fault (lowest (map level_standing ls)) gs ≡ None → IsTold (tells.first_refusal (map level_standing ls) (databases_of ls) (comes_to (map level_standing ls) gs)) level why)
    → IsToldOf (lowest_catalogue ls) (views_of ls) gs level why
refused_here [] gs level why are h told = absurd h
refused_here (l ∷ ls) gs zero why are h told = absurd h
refused_here (l ∷ ls) gs (suc zero) why are h told = by_why why h told
  where
    c : CatalogueValue
    c = l.session.catalogue

    is : option_map told_as (tells.first_refusal (map level_standing (l ∷ ls)) (databases_of (l ∷ ls)) (after_all c gs)) ≡ changing_refusal c (after_all c gs) (views_of (l ∷ ls))
    is = refusal_is (l ∷ ls) c (after_all c gs) are.kept

    by_why : (x : GroupRefused) → IsStackRefused (map level_standing (l ∷ ls)) (databases_of (l ∷ ls)) gs 1 x
        → (group_fault c gs ≡ None → IsTold (tells.first_refusal (map level_standing (l ∷ ls)) (databases_of (l ∷ ls)) (after_all c gs)) 1 x) → IsToldOf c (views_of (l ∷ ls)) gs 1 x
    by_why (group.Change place r) fault_is then = inl (refl, (fault_is, sym (first_is 0 c gs) ∙ ap (option_map refusal_in) fault_is))
    by_why (group.Illegal label) verdict_is then = (verdict_is.0, sym is ∙ ap (option_map told_as) (then verdict_is.0))
    by_why (group.Conflict clash) verdict_is then = (verdict_is.0, sym is ∙ ap (option_map told_as) (then verdict_is.0))
    by_why group.NoMemory all then = tt
refused_here (l ∷ ls) gs (suc (suc k)) why are h told =
    let none : group_fault l.session.catalogue gs ≡ None = h.1.0 in
    above_told l.session.catalogue (views_of (l ∷ ls)) gs (tells.first_refusal (map level_standing (l ∷ ls)) (databases_of (l ∷ ls)) (after_all l.session.catalogue gs))
    (refusal_is (l ∷ ls) l.session.catalogue (after_all l.session.catalogue gs) are.kept) none (suc (suc k)) why (omega arith) (told none)

pub refused_told : (ls : List LevelState) (names : List Text) (gs : List Change) (level : ℕ) (why : GroupRefused) → AreLevels ls → names ≡ databases_of ls → IsStackRefused (map level_standing ls) names gs level why
    → (group_fault (lowest (map level_standing ls)) gs ≡ None → IsTold (tells.first_refusal (map level_standing ls) names (comes_to (map level_standing ls) gs)) level why)
    → IsToldOf (lowest_catalogue ls) (views_of ls) gs level why
refused_told ls names gs level why are is = subst (λ (ns : List Text). IsStackRefused (map level_standing ls) ns gs level why
    → (group_fault (lowest (map level_standing ls)) gs ≡ None → IsTold (tells.first_refusal (map level_standing ls) ns (comes_to (map level_standing ls) gs)) level why)
    → IsToldOf (lowest_catalogue ls) (views_of ls) gs level why) (sym is) (refused_here ls gs level why are)
