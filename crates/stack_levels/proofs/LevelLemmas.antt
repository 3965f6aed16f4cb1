-- What a stack tells of its levels is what is said of their views.
use Rattle.std.proofs.Common.{◌≡◌, ◌∙◌, ◌∷◌, ℕ, List, [], Option, Some, None, map, refl, sym, ap, subst}
use Rattle.std.specs.Prelude.{option_map, unwrap_or}
use Rattle.std.specs.Option.{option_or}
use Rattle.ss_text.specs.Texts.{Row}
use Rattle.schema_model.specs.Catalogue.{CatalogueValue}
use Rattle.schema_model.specs.declared.refusal.Which.{Which}
use Rattle.view_def.specs.Query.{Query}
use Rattle.flow_law.specs.Facts.{illegal, conflict, first_refusal, refusal_by}
use Rattle.flow_law.specs.Script.{script}
use Rattle.flow_law.specs.Tables.{TablesValue}
use Rattle.flow_law.specs.declared.line.TableLine.{TableLine}
use Rattle.flow_law.specs.declared.refused.Clash.{Clash}
use Rattle.flow_law.specs.declared.refused.IllegalLabel.{IllegalLabel}
use Rattle.view_meaning.specs.Meaning.{facts, meaning, shape_of}
use Rattle.apply_law.specs.Verdicts.{Verdict, Makes, IsIllegal, Clashes, tables_in, IsScriptTo}
use Rattle.view_stack.specs.Limits.{lifted_limit}
use Rattle.view_stack.specs.Stands.{catalogue_for, given_by}
use Rattle.view_stack.specs.Told as stack
use Rattle.view_stack.specs.Told.{Cause, Passes, cause_of, at_level}
use Rattle.view_session.specs.Verdicts.{verdict_of}
use Rattle.ss_print.specs.Fields.{illegal_fields, clash_fields}
use Rattle.view_stages.specs.Stages.{refusal_of}
use Rattle.stack_levels.specs.declared.refusal.LevelRefusal.{LevelRefusal}
use Rattle.stack_levels.specs.Levels.{refused_at, one_up, limit_refusal, limit_above, lines_over, changing_refusal}
use Rattle.stack_levels.specs.States.{LevelState, level_standing, databases_of, views_of, IsKept, cause_fields, told_as}

-- ---- one view
module _ (q : Query) (c : CatalogueValue) where
  cause_is : option_map cause_fields (cause_of (verdict_of q c)) ≡ refusal_of c q
  unfolding refusal_of refusal_by
  cause_is = by_both (illegal (shape_of q) (facts c q)) (conflict (facts c q))
    where
      by_both : (i : Option IllegalLabel) (k : Option Clash) → option_map cause_fields (cause_of (unwrap_or (first_refusal IsIllegal Clashes i k) (Makes (meaning c q)))) ≡ first_refusal illegal_fields clash_fields i k
      by_both None None = refl
      by_both (Some label) k = refl
      by_both None (Some clash) = refl

  pub makes_meaning : (ts : TablesValue) → verdict_of q c ≡ Makes ts → ts ≡ meaning c q
  unfolding refusal_by
  makes_meaning ts = by_both (illegal (shape_of q) (facts c q)) (conflict (facts c q))
    where
      by_both : (i : Option IllegalLabel) (k : Option Clash) → unwrap_or (first_refusal IsIllegal Clashes i k) (Makes (meaning c q)) ≡ Makes ts → ts ≡ meaning c q
      by_both None None h = cc
      by_both (Some label) k h = absurd (cc)
      by_both None (Some clash) h = absurd (cc)

  -- a verdict makes the view's tables, and then there is no refusal, or it is the refusal
  data Judgement : Type 0 where
    Unrefused : verdict_of q c ≡ Makes (meaning c q) → refusal_of c q ≡ None → Judgement
    Refused : (cause : Cause) → cause_of (verdict_of q c) ≡ Some cause → refusal_of c q ≡ Some (cause_fields cause) → Judgement

  judgement : Judgement
  judgement = by_verdict (verdict_of q c) refl
    where
      by_verdict : (v : Verdict) → verdict_of q c ≡ v → Judgement
      by_verdict (Makes ts) e = Unrefused (e ∙ ap Makes (makes_meaning ts e)) (sym cause_is ∙ ap (λ (v : Verdict). option_map cause_fields (cause_of v)) e)
      by_verdict (IsIllegal label) e = Refused (stack.HasIllegal label) (ap cause_of e) (sym cause_is ∙ ap (λ (v : Verdict). option_map cause_fields (cause_of v)) e)
      by_verdict (Clashes clash) e = Refused (stack.HasClash clash) (ap cause_of e) (sym cause_is ∙ ap (λ (v : Verdict). option_map cause_fields (cause_of v)) e)

  pub makes_unrefused : refusal_of c q ≡ None → verdict_of q c ≡ Makes (meaning c q)
  makes_unrefused none = by_judgement judgement
    where
      by_judgement : Judgement → verdict_of q c ≡ Makes (meaning c q)
      by_judgement (Unrefused makes also) = makes
      by_judgement (Refused cause is fields) = let bad : Some (cause_fields cause) ≡ None = sym fields ∙ none in absurd (cc)

  -- a script to the verdict is one to the view's tables
  pub script_made : (old : TablesValue) (lines : List TableLine) → IsScriptTo old (verdict_of q c) lines → lines ≡ script old (meaning c q)
  script_made old lines h = by_verdict (verdict_of q c) refl h
    where
      by_verdict : (v : Verdict) → verdict_of q c ≡ v → IsScriptTo old v lines → lines ≡ script old (meaning c q)
      by_verdict (Makes ts) e is = is ∙ ap (script old) (makes_meaning ts e)
      by_verdict (IsIllegal label) e is = absurd is
      by_verdict (Clashes clash) e is = absurd is

-- ---- the levels
map_or : {A B : Type 0} (f : A → B) (a b : Option A) → option_map f (option_or a b) ≡ option_or (option_map f a) (option_map f b)
map_or f None b = refl
map_or f (Some x) b = refl

told_up : (o : Option (ℕ × Cause)) → option_map told_as (option_map stack.one_up o) ≡ option_map one_up (option_map told_as o)
told_up None = refl
told_up (Some x) = refl

limit_fields_told : (o : Option Which) → option_map told_as (option_map (λ which. at_level 2 (Passes which)) o) ≡ option_map limit_refusal o
limit_fields_told None = refl
limit_fields_told (Some which) = refl

-- the limit that is passed on the way counts where there is a level above
limit_same : (l : LevelState) (ls : List LevelState) (c : CatalogueValue) (new : TablesValue) → tables_in (verdict_of l.session.query l.session.catalogue) ≡ meaning c l.session.query
    → option_map told_as (option_map (λ which. at_level 2 (Passes which)) (stack.limit_above (databases_of (l ∷ ls)) (level_standing l) (map level_standing ls) new))
    ≡ limit_above (views_of ls) (lifted_limit l.session.query.view_db (shape_of l.session.query) (meaning c l.session.query) (script (meaning c l.session.query) new))
limit_same l [] c new own = refl
limit_same l (m ∷ ms) c new own =
    limit_fields_told (lifted_limit q.view_db (shape_of q) (tables_in (verdict_of q l.session.catalogue)) (script (tables_in (verdict_of q l.session.catalogue)) new))
    ∙ ap (λ (ts : TablesValue). option_map limit_refusal (lifted_limit q.view_db (shape_of q) ts (script ts new))) own
  where
    q : Query
    q = l.session.query

module _ (l : LevelState) (ls : List LevelState) where
  abbrev view : Query
  view = l.session.query

  -- what is said behind the verdict of the lowest of these levels
  abbrev Behind : Verdict → Option (ℕ × Cause)
  Behind v =
      option_or (option_map (λ which. at_level 2 (Passes which)) (stack.limit_above (databases_of (l ∷ ls)) (level_standing l) (map level_standing ls) (tables_in v)))
      (option_map stack.one_up (stack.first_refusal (map level_standing ls) (databases_of ls) (stack.given_above (databases_of (l ∷ ls)) (level_standing l) (tables_in v))))

  abbrev BehindView : CatalogueValue → CatalogueValue → Option LevelRefusal
  BehindView c d =
      option_or (limit_above (views_of ls) (lifted_limit view.view_db (shape_of view) (meaning c view) (script (meaning c view) (meaning d view)))) (option_map one_up (changing_refusal (given_by c view) (given_by d view) (views_of ls)))

  one_refusal : (c d : CatalogueValue) → IsKept (l ∷ ls) c → option_map told_as (stack.first_refusal (map level_standing ls) (databases_of ls) (given_by d view)) ≡ changing_refusal (given_by c view) (given_by d view) (views_of ls)
      → Judgement view d → option_map told_as (stack.first_refusal (map level_standing (l ∷ ls)) (databases_of (l ∷ ls)) d) ≡ changing_refusal c d (views_of (l ∷ ls))
  one_refusal c d kept rest (Refused cause is fields) =
      ap (λ (o : Option Cause). option_map told_as (option_or (option_map (at_level 1) o) (Behind (verdict_of view d)))) is
      ∙ sym (ap (λ (o : Option Row). option_or (option_map (refused_at 1) o) (BehindView c d)) fields)
  one_refusal c d kept rest (Unrefused makes none) =
      ap (λ (v : Verdict). option_map told_as (option_or (option_map (at_level 1) (cause_of v)) (Behind v))) makes
      ∙ map_or told_as (option_map (λ which. at_level 2 (Passes which)) (stack.limit_above (databases_of (l ∷ ls)) (level_standing l) (map level_standing ls) (meaning d view)))
      (option_map stack.one_up (stack.first_refusal (map level_standing ls) (databases_of ls) (given_by d view)))
      ∙ (λ i. option_or (limit_same l ls c (meaning d view) (ap tables_in kept.0) i) ((told_up (stack.first_refusal (map level_standing ls) (databases_of ls) (given_by d view)) ∙ ap (option_map one_up) rest) i))
      ∙ sym (ap (λ (o : Option Row). option_or (option_map (refused_at 1) o) (BehindView c d)) none)

  one_lines : (c d : CatalogueValue) → IsKept (l ∷ ls) c → changing_refusal c d (views_of (l ∷ ls)) ≡ None
      → (changing_refusal (given_by c view) (given_by d view) (views_of ls) ≡ None → stack.lines_over (map level_standing ls) (databases_of ls) (given_by d view) ≡ lines_over (given_by c view) (given_by d view) (views_of ls))
      → Judgement view d → stack.lines_over (map level_standing (l ∷ ls)) (databases_of (l ∷ ls)) d ≡ lines_over c d (views_of (l ∷ ls))
  one_lines c d kept unrefused rest (Refused cause is fields) =
      let bad : Some (refused_at 1 (cause_fields cause)) ≡ None = sym (ap (λ (o : Option Row). option_or (option_map (refused_at 1) o) (BehindView c d)) fields) ∙ unrefused in
      absurd (cc)
  one_lines c d kept unrefused rest (Unrefused makes none) =
      (λ i. script (tables_in (kept.0 i)) (tables_in (makes i)) ∷ stack.lines_over (map level_standing ls) (databases_of ls) (catalogue_for view.view_db (shape_of view) (tables_in (makes i))))
      ∙ ap (λ (all : List (List TableLine)). script (meaning c view) (meaning d view) ∷ all) (rest (none_behind (limit_above (views_of ls) (lifted_limit view.view_db (shape_of view) (meaning c view) (script (meaning c view) (meaning d view)))) (changing_refusal (given_by c view) (given_by d view) (views_of ls))
      (sym (ap (λ (o : Option Row). option_or (option_map (refused_at 1) o) (BehindView c d)) none) ∙ unrefused)))
    where
      none_behind : (a b : Option LevelRefusal) → option_or a (option_map one_up b) ≡ None → b ≡ None
      none_behind None None h = refl
      none_behind None (Some r) h = absurd (cc)
      none_behind (Some r) b h = absurd (cc)

-- what a stack tells over a catalogue is what is said of the views
pub refusal_is : (ls : List LevelState) (c d : CatalogueValue) → IsKept ls c → option_map told_as (stack.first_refusal (map level_standing ls) (databases_of ls) d) ≡ changing_refusal c d (views_of ls)
refusal_is [] c d kept = refl
refusal_is (l ∷ ls) c d kept = one_refusal l ls c d kept (refusal_is ls (given_by c l.session.query) (given_by d l.session.query) kept.2) (judgement l.session.query d)

pub lines_are : (ls : List LevelState) (c d : CatalogueValue) → IsKept ls c → changing_refusal c d (views_of ls) ≡ None → stack.lines_over (map level_standing ls) (databases_of ls) d ≡ lines_over c d (views_of ls)
lines_are [] c d kept unrefused = refl
lines_are (l ∷ ls) c d kept unrefused = one_lines l ls c d kept unrefused (lines_are ls (given_by c l.session.query) (given_by d l.session.query) kept.2) (judgement l.session.query d)

-- levels that are over a catalogue, where none refuses it, keep the tables over it
pub kept_then : (ls : List LevelState) (c d : CatalogueValue) → stack.IsOver (map level_standing ls) (databases_of ls) d → changing_refusal c d (views_of ls) ≡ None → IsKept ls d
kept_then [] c d over unrefused = tt
kept_then (l ∷ ls) c d over unrefused = by_judgement (judgement l.session.query d) (kept_then ls (given_by c l.session.query) (given_by d l.session.query))
  where
    q : Query
    q = l.session.query

    behind : Option LevelRefusal
    behind = option_or (limit_above (views_of ls) (lifted_limit q.view_db (shape_of q) (meaning c q) (script (meaning c q) (meaning d q)))) (option_map one_up (changing_refusal (given_by c q) (given_by d q) (views_of ls)))

    none_behind : (a b : Option LevelRefusal) → option_or a (option_map one_up b) ≡ None → b ≡ None
    none_behind None None h = refl
    none_behind None (Some r) h = absurd (cc)
    none_behind (Some r) b h = absurd (cc)

    by_judgement : Judgement q d → (stack.IsOver (map level_standing ls) (databases_of ls) (given_by d q) → changing_refusal (given_by c q) (given_by d q) (views_of ls) ≡ None → IsKept ls (given_by d q)) → IsKept (l ∷ ls) d
    by_judgement (Refused cause is fields) rest =
        let bad : Some (refused_at 1 (cause_fields cause)) ≡ None = sym (ap (λ (o : Option Row). option_or (option_map (refused_at 1) o) behind) fields) ∙ unrefused in
        absurd (cc)
    by_judgement (Unrefused makes none) rest = (
      over.0 ∙ makes,
      none,
      rest (subst (λ (v : Verdict). stack.IsOver (map level_standing ls) (databases_of ls) (catalogue_for q.view_db (shape_of q) (tables_in v))) makes over.1)
          (none_behind (limit_above (views_of ls) (lifted_limit q.view_db (shape_of q) (meaning c q) (script (meaning c q) (meaning d q)))) (changing_refusal (given_by c q) (given_by d q) (views_of ls))
          (sym (ap (λ (o : Option Row). option_or (option_map (refused_at 1) o) behind) none) ∙ unrefused)),
    )
