-- What contracts see of a stack whose levels have changed.
use Rattle.std.proofs.Common.{◌≡◌, ◌∙◌, Bool, ℕ, List, [], ◌∷◌, map, Option, None, refl, sym, ap, subst}
use Rattle.std.specs.Prelude.{false, IfSome}
use Rattle.ss_text.specs.Texts.{Text}
use Rattle.outside.specs.Effects.{Replace}
use Rattle.schema_model.specs.Catalogue.{CatalogueValue}
use Rattle.schema_model.specs.Changes.{after_all}
use Rattle.schema_model.specs.declared.change.Change.{Change}
use Rattle.schema_model.specs.declared.pair.Pair.{Pair}
use Rattle.csv_catalog.specs.Saved.{saved}
use Rattle.view_def.specs.Query.{Query}
use Rattle.flow_law.specs.declared.line.TableLine.{TableLine}
use Rattle.change_draft.specs.Drafts.{DraftState, StandsOver}
use Rattle.stack_levels.specs.Levels.{tables_over, lines_over, changing_refusal}
use Rattle.stack_levels.specs.Values.{LevelValue, with_lines, synced_over}
use Rattle.stack_levels.specs.States.{LevelState, AreLevels, level_value, level_tables, lowest_catalogue, views_of}
use Rattle.stack_levels.specs.Opening.{AreFresh}
use Rattle.stack_levels.specs.Taking.{HaveTaken, AreRefused}
use Rattle.stack_levels.specs.declared.refusal.LevelsRefused.{LevelsRefused}
use Rattle.stack_answers.specs.Stack.{StackState, queries_of, stack_tables, stack_at_first}
use Rattle.stack_answers.specs.Held.{stack_state, IsStanding}
use Rattle.stack_answers.specs.Answers.{making, synced_stack, folder_effects, sync_count}

-- the views of levels
pub views_are : (ls : List LevelState) → map (λ (v : LevelValue). v.query) (map level_value ls) ≡ views_of ls
views_are [] = refl
views_are (l ∷ ls) = ap (λ (qs : List Query). l.session.query ∷ qs) (views_are ls)

-- levels that have taken changes
pub taken_state : (old new : List LevelState) (gs : List Change) (all : List (List TableLine)) (held : Option (List Change)) (refused : Bool) (broken : ℕ) → HaveTaken old new gs all
    → all ≡ lines_over (lowest_catalogue old) (after_all (lowest_catalogue old) gs) (views_of old) → stack_state new None refused 0 ≡ (making (stack_state old held refused broken) gs).stack
taken_state old new gs all held refused broken h are =
    let c = lowest_catalogue old in
    let levels : map level_value new ≡ with_lines (map level_value old) (lines_over c (after_all c gs) (queries_of (stack_state old held refused broken))) =
    h.values ∙ ap (with_lines (map level_value old)) (are ∙ ap (lines_over c (after_all c gs)) (sym (views_are old))) in
    (λ i. record { catalogue = h.catalogue i; relations = h.relations i; databases = h.databases i; levels = levels i; held = None; refused = refused; broken = 0 })

pub taken_alone : (old new : List LevelState) (gs : List Change) (all : List (List TableLine)) (held : Option (List Change)) (refused : Bool) (broken : ℕ) → held ≡ None → HaveTaken old new gs all
    → all ≡ lines_over (lowest_catalogue old) (after_all (lowest_catalogue old) gs) (views_of old) → stack_state new held refused 0 ≡ (making (stack_state old held refused broken) gs).stack
taken_alone old new gs all held refused broken none h are = ap (λ (o : Option (List Change)). stack_state new o refused 0) none ∙ taken_state old new gs all held refused broken h are

-- what they answer, as of their stack
module _ (ls : List LevelState) (gs : List Change) (held : Option (List Change)) (refused : Bool) (broken : ℕ) where
  abbrev c : CatalogueValue
  c = lowest_catalogue ls

  abbrev of_stack : List Query
  of_stack = queries_of (stack_state ls held refused broken)

  pub taken_lines : (all : List (List TableLine)) → all ≡ lines_over c (after_all c gs) (views_of ls) → all ≡ lines_over c (after_all c gs) of_stack
  taken_lines all e = e ∙ ap (lines_over c (after_all c gs)) (sym (views_are ls))

  pub taken_unrefused : changing_refusal c (after_all c gs) (views_of ls) ≡ None → changing_refusal c (after_all c gs) of_stack ≡ None
  taken_unrefused e = ap (changing_refusal c (after_all c gs)) (views_are ls) ∙ e

  pub taken_refused : (e : LevelsRefused) → AreRefused c (views_of ls) gs e → AreRefused c of_stack gs e
  taken_refused e h = subst (λ (qs : List Query). AreRefused c qs gs e) (sym (views_are ls)) h

-- levels that were just synced
pub synced_state : (old new : List LevelState) (held : Option (List Change)) (refused : Bool) (broken : ℕ) → AreFresh new (lowest_catalogue old) (views_of old)
    → stack_state new held refused broken ≡ synced_stack (stack_state old held refused broken)
synced_state old new held refused broken h =
    let levels : map level_value new ≡ synced_over (lowest_catalogue old) (queries_of (stack_state old held refused broken)) = h.values ∙ ap (synced_over (lowest_catalogue old)) (sym (views_are old)) in
    (λ i. record { catalogue = h.catalogue i; relations = (h.names i).relations; databases = (h.names i).databases; levels = levels i; held = held; refused = refused; broken = broken })

-- levels that were just opened
pub fresh_state : (ls : List LevelState) (c : CatalogueValue) (qs : List Query) → AreFresh ls c qs → stack_state ls None false 0 ≡ stack_at_first qs c
fresh_state ls c qs h = (λ i. record { catalogue = h.catalogue i; relations = (h.names i).relations; databases = (h.names i).databases; levels = h.values i; held = None; refused = false; broken = 0 })

-- levels stand with a draft over the catalogue that they had, and with none where no group is open
pub stands_still : (old new : List LevelState) (draft : Option DraftState) → IsStanding old draft → AreLevels new → lowest_catalogue new ≡ lowest_catalogue old → IsStanding new draft
stands_still old new draft h levels same = record { levels = levels; draft = subst (λ (c : CatalogueValue). IfSome draft (λ d. StandsOver d c)) (sym same) h.draft }

-- ---- what is written of levels, as of their stack
module _ (ls : List LevelState) (held : Option (List Change)) (refused : Bool) (broken : ℕ) where
  abbrev own : StackState
  own = stack_state ls held refused broken

  -- the sources that were named
  pub saves : (c : CatalogueValue) (dbs : List Text) (pairs : List Pair) → c ≡ own.catalogue → dbs ≡ own.databases → pairs ≡ own.relations
      → Replace (saved own.catalogue own.databases own.relations) ∷ [] ≡ Replace (saved c dbs pairs) ∷ []
  saves c dbs pairs e f g = rw (e, f, g) refl

  tables_are : map level_tables ls ≡ tables_over (lowest_catalogue ls) (views_of ls) → map level_tables ls ≡ stack_tables own
  tables_are kept = kept ∙ ap (tables_over (lowest_catalogue ls)) (sym (views_are ls))

  pub synced_effects : (all : List LevelState) → all ≡ ls → map level_tables ls ≡ tables_over (lowest_catalogue ls) (views_of ls) → folder_effects own.levels (stack_tables own) ≡ folder_effects (map level_value all) (map level_tables all)
  synced_effects all same kept = ap (folder_effects (map level_value ls)) (sym (tables_are kept)) ∙ ap (λ (xs : List LevelState). folder_effects (map level_value xs) (map level_tables xs)) (sym same)

  pub synced_counts : (all : List LevelState) (n : ℕ) → all ≡ ls → map level_tables ls ≡ tables_over (lowest_catalogue ls) (views_of ls) → n ≡ sync_count (map level_value all) (map level_tables all) → n ≡ sync_count own.levels (stack_tables own)
  synced_counts all n same kept e = e ∙ ap (λ (xs : List LevelState). sync_count (map level_value xs) (map level_tables xs)) same ∙ ap (sync_count (map level_value ls)) (tables_are kept)
