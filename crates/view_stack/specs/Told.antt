-- What levels that stand over one another tell of the catalogues that they come to.
use Rattle.std.specs.Prelude.{◌≡◌, ℕ, suc, List, [], ◌∷◌, Option, Some, None, option_map, drop, ⊤}
use Rattle.std.specs.Option.{option_or}
use Rattle.ss_text.specs.Texts.{Text}
use Rattle.schema_model.specs.Catalogue.{CatalogueValue}
use Rattle.schema_model.specs.Changes.{after_all}
use Rattle.schema_model.specs.declared.change.Change.{Change}
use Rattle.schema_model.specs.declared.refusal.Refusal.{Refusal}
use Rattle.schema_model.specs.declared.refusal.Refusal.TheVariants.{Limit}
use Rattle.schema_model.specs.declared.refusal.Which.{Which}
use Rattle.flow_law.specs.Script.{script}
use Rattle.flow_law.specs.Tables.{TablesValue}
use Rattle.flow_law.specs.declared.line.TableLine.{TableLine}
use Rattle.flow_law.specs.declared.refused.Clash.{Clash}
use Rattle.flow_law.specs.declared.refused.IllegalLabel.{IllegalLabel}
use Rattle.apply_law.specs.Standing.{Standing, tables_of}
use Rattle.apply_law.specs.Verdicts.{Verdict, Makes, IsIllegal, Clashes, tables_in}
use Rattle.apply_law.specs.declared.refused.GroupRefused.{GroupRefused}
use Rattle.apply_law.specs.declared.refused.GroupRefused.TheVariants as refused
use Rattle.view_stack.specs.Stands.{catalogue_for}
use Rattle.view_stack.specs.Limits.{lifted_limit}

-- why a level refuses, whatever the changes are by which it comes to its catalogue: a limit that is passed on the way, or what it has in place of tables
pub data Cause : Type 0 where
  Passes : Which → Cause
  HasIllegal : IllegalLabel → Cause
  HasClash : Clash → Cause

abbrev pub cause_of : Verdict → Option Cause
cause_of (Makes ts) = None
cause_of (IsIllegal label) = Some (HasIllegal label)
cause_of (Clashes clash) = Some (HasClash clash)

abbrev pub at_level : ℕ → Cause → ℕ × Cause
at_level level cause = (level, cause)

abbrev pub one_up : ℕ × Cause → ℕ × Cause
one_up x = (suc x.0, x.1)

-- the limit that a level above, if there is one, passes where the tables become others
abbrev pub limit_above : List Text → Standing → List Standing → TablesValue → Option Which
limit_above names s [] new = None
limit_above [] s (t ∷ levels) new = None
limit_above (name ∷ names) s (t ∷ levels) new = lifted_limit name s.shape (tables_of s) (script (tables_of s) new)

-- the catalogue that tables are under the name of their level
abbrev pub given_above : List Text → Standing → TablesValue → CatalogueValue
given_above [] s new = []
given_above (name ∷ names) s new = catalogue_for name s.shape new

-- the first level that refuses, counted from 1, and why, where the lowest comes to a catalogue
abbrev pub first_refusal : List Standing → List Text → CatalogueValue → Option (ℕ × Cause)
first_refusal [] names c = None
first_refusal (s ∷ levels) names c =
    let new = tables_in (s.verdict c) in
    option_or (option_map (at_level 1) (cause_of (s.verdict c)))
    (option_or (option_map (λ which. at_level 2 (Passes which)) (limit_above names s levels new)) (option_map one_up (first_refusal levels (drop 1 names) (given_above names s new))))

-- the lines of each level where the lowest comes to a catalogue
abbrev pub lines_over : List Standing → List Text → CatalogueValue → List (List TableLine)
lines_over [] names c = []
lines_over (s ∷ levels) names c =
    let new = tables_in (s.verdict c) in
    script (tables_of s) new ∷ lines_over levels (drop 1 names) (given_above names s new)

-- the verdict of each level is that over the catalogue which the tables of the one below are, where the verdict of the lowest is that over this one
abbrev pub IsOver : List Standing → List Text → CatalogueValue → Type 0
IsOver [] names c = ⊤
IsOver (s ∷ levels) names c = (s.verdict s.catalogue ≡ s.verdict c) × IsOver levels (drop 1 names) (given_above names s (tables_in (s.verdict c)))

-- the catalogue that the lowest level stands for, and the one that it comes to by changes
abbrev pub lowest : List Standing → CatalogueValue
lowest [] = []
lowest (s ∷ levels) = s.catalogue

abbrev pub comes_to : List Standing → List Change → CatalogueValue
comes_to levels gs = after_all (lowest levels) gs

-- a level that refuses a change of its own refuses it for a limit
abbrev pub IsPassed : Option (ℕ × Cause) → ℕ → Refusal → Type 0
IsPassed o level (Limit which) = o ≡ Some (level, Passes which)
IsPassed o level r = ⊥

-- the level of this number refuses, as is told, or there was no memory
abbrev pub IsTold : Option (ℕ × Cause) → ℕ → GroupRefused → Type 0
IsTold o level (refused.Change place r) = IsPassed o level r
IsTold o level (refused.Illegal label) = o ≡ Some (level, HasIllegal label)
IsTold o level (refused.Conflict clash) = o ≡ Some (level, HasClash clash)
IsTold o level refused.NoMemory = ⊤
