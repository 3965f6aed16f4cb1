-- Levels, each over the one below, and what changes make of them.
use Rattle.std.specs.Prelude.{◌≡◌, ◌≤◌, ℕ, zero, suc, List, [], ◌∷◌, None, option_map, map, length, drop, ⊤}
use Rattle.std.specs.List.{AllByRecursion}
use Rattle.ss_text.specs.Texts.{Text}
use Rattle.flow_law.specs.declared.line.TableLine.{TableLine}
use Rattle.schema_model.specs.Changes.{after_all}
use Rattle.schema_model.specs.Refusals.{group_fault}
use Rattle.schema_model.specs.declared.change.Change.{Change}
use Rattle.schema_model.specs.declared.refusal.Refusal.TheVariants.{Limit}
use Rattle.apply_law.specs.Standing.{Standing, Waiting, Idle, Proposes, tables_of, verdict_after, made}
use Rattle.apply_law.specs.Verdicts.{IsScriptTo, IsGroupRefused}
use Rattle.apply_law.specs.declared.refused.GroupRefused.{GroupRefused}
use Rattle.view_stack.specs.Stands.{catalogue_for, stands}
use Rattle.view_stack.specs.Limits.{lifted_limit}
use Rattle.view_stack.specs.Lifted.{lifted}

-- the levels, the lowest first, and the names of the databases that their tables are
pub record StackValue (A : Type 0) : Type 0 where
  pub levels : List A
  pub names : List Text

abbrev pub stack_value : {A : Type 0} → List A → List Text → StackValue A
stack_value levels names = record { levels = levels; names = names }

-- the catalogue of each level stands for the tables of the level below, under that level's name
abbrev pub AreStacked : List Standing → List Text → Type 0
AreStacked [] names = ⊤
AreStacked (s ∷ []) names = ⊤
AreStacked (s ∷ t ∷ levels) [] = ⊥
AreStacked (s ∷ t ∷ levels) (name ∷ names) = stands name s.shape (tables_of s) t.catalogue × AreStacked (t ∷ levels) names

-- nothing waits in any level
abbrev pub AreIdle : List Waiting → Type 0
AreIdle ws = AllByRecursion (λ (w : Waiting). w ≡ Idle) ws

-- levels, what waits in them, and their names are a stack
pub record IsStack (levels : List Standing) (waits : List Waiting) (names : List Text) : Type 0 where
  pub some : 1 ≤ length levels
  pub named : length names ≡ length levels
  pub idle : AreIdle waits
  pub stacked : AreStacked levels names

-- what lines of a level come to at the level above it, where their tables are the database of this name
abbrev pub lifted_to : Text → Standing → Standing → List TableLine → List Change
lifted_to name s t lines = lifted name s.shape.constants (tables_of s) t.catalogue lines

-- what lines of a level come to at the first of the levels above it
abbrev pub changes_above : List Text → Standing → List Standing → List TableLine → List Change
changes_above names s [] lines = []
changes_above [] s (t ∷ levels) lines = []
changes_above (name ∷ names) s (t ∷ levels) lines = lifted_to name s t lines

-- a level takes changes and answers these lines
abbrev pub Takes : Standing → List Change → List TableLine → Type 0
Takes s gs lines = (group_fault s.catalogue gs ≡ None) × IsScriptTo (tables_of s) (verdict_after s gs) lines

-- the first level takes changes, and each other what the lines of the one below come to, with these lines
abbrev pub AreTaken : List Standing → List Text → List Change → List (List TableLine) → Type 0
AreTaken [] names gs all = all ≡ []
AreTaken (s ∷ levels) names gs [] = ⊥
AreTaken (s ∷ levels) names gs (lines ∷ all) = Takes s gs lines × AreTaken levels (drop 1 names) (changes_above names s levels lines) all

-- the levels after changes with these lines
abbrev pub made_all : List Standing → List Text → List Change → List (List TableLine) → List Standing
made_all [] names gs all = []
made_all (s ∷ levels) names gs [] = s ∷ levels
made_all (s ∷ levels) names gs (lines ∷ all) = made s gs ∷ made_all levels (drop 1 names) (changes_above names s levels lines) all

-- the level of this number, from 1, refuses changes or what they come to, and those below take them
abbrev pub IsStackRefused : List Standing → List Text → List Change → ℕ → GroupRefused → Type 0
IsStackRefused [] names gs level why = ⊥
IsStackRefused (s ∷ levels) names gs zero why = ⊥
IsStackRefused (s ∷ levels) names gs (suc zero) why = IsGroupRefused s.verdict s.catalogue gs why
IsStackRefused (s ∷ levels) names gs (suc (suc k)) why =
    (lines : List TableLine) × Takes s gs lines × IsStackRefused levels (drop 1 names) (changes_above names s levels lines) (suc k) why

-- what each level proposes: its changes, as they are taken with these lines
abbrev pub AreProposed : List Standing → List Text → List Change → List (List TableLine) → List Waiting → Type 0
AreProposed [] names gs all ws = (all ≡ []) × (ws ≡ [])
AreProposed (s ∷ levels) names gs [] ws = ⊥
AreProposed (s ∷ levels) names gs (lines ∷ all) [] = ⊥
AreProposed (s ∷ levels) names gs (lines ∷ all) (w ∷ ws) =
    (w ≡ Proposes gs) × Takes s gs lines × AreProposed levels (drop 1 names) (changes_above names s levels lines) all ws

-- the levels where the first proposes changes, and each other what the lines of the one below come to, with these lines
abbrev pub proposing_all : {A : Type 0} → (A → Standing) → (A → List Change → A) → List A → List Text → List Change → List (List TableLine) → List A
proposing_all state propose [] names gs all = []
proposing_all state propose (a ∷ levels) names gs [] = a ∷ levels
proposing_all state propose (a ∷ levels) names gs (lines ∷ all) =
    propose a gs ∷ proposing_all state propose levels (drop 1 names) (changes_above names (state a) (map state levels) lines) all

-- where a level takes changes with these lines, what they come to at the level above: it stands for the tables after them, and has the verdict over the catalogue that those are, unless a limit is passed on the way
pub record IsLifted (name : Text) (s t : Standing) (gs : List Change) (lines : List TableLine) : Type 0 where
  pub over : stands name s.shape (tables_of (made s gs)) (after_all t.catalogue (lifted_to name s t lines))
  pub limit : group_fault t.catalogue (lifted_to name s t lines) ≡ option_map Limit (lifted_limit name s.shape (tables_of s) lines)
  pub verdict : group_fault t.catalogue (lifted_to name s t lines) ≡ None
      → verdict_after t (lifted_to name s t lines) ≡ t.verdict (catalogue_for name s.shape (tables_of (made s gs)))

abbrev pub LiftsAbove : List Text → Standing → List Standing → List Change → List TableLine → Type 0
LiftsAbove names s [] gs lines = ⊤
LiftsAbove [] s (t ∷ levels) gs lines = ⊤
LiftsAbove (name ∷ names) s (t ∷ levels) gs lines = IsLifted name s t gs lines

-- the same of each level by which lines are lifted, where all take their changes
abbrev pub AreLifted : List Standing → List Text → List Change → List (List TableLine) → Type 0
AreLifted [] names gs all = ⊤
AreLifted (s ∷ levels) names gs [] = ⊤
AreLifted (s ∷ levels) names gs (lines ∷ all) = LiftsAbove names s levels gs lines × AreLifted levels (drop 1 names) (changes_above names s levels lines) all

-- all levels propose, each is as it then is, and those above are over those below once that is made
pub record HaveProposed {A : Type 0} (state : A → Standing) (propose : A → List Change → A) (old new : List A) (names : List Text) (gs : List Change) (all : List (List TableLine)) (ws : List Waiting) : Type 0 where
  pub proposed : AreProposed (map state old) names gs all ws
  pub stacked : AreStacked (made_all (map state old) names gs all) names
  pub lifts : AreLifted (map state old) names gs all
  pub values : new ≡ proposing_all state propose old names gs all

-- what lines come to of those below the level of this number, from 1, which refuses
abbrev pub IsLiftRefused : List Standing → List Text → List Change → ℕ → GroupRefused → Type 0
IsLiftRefused [] names gs level why = ⊥
IsLiftRefused (s ∷ levels) names gs zero why = ⊥
IsLiftRefused (s ∷ levels) names gs (suc zero) why = IsGroupRefused s.verdict s.catalogue gs why
IsLiftRefused (s ∷ levels) names gs (suc (suc k)) why =
    (lines : List TableLine) × Takes s gs lines × LiftsAbove names s levels gs lines × IsLiftRefused levels (drop 1 names) (changes_above names s levels lines) (suc k) why
