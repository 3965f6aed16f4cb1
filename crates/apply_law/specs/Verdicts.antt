-- What is said of a catalogue: tables, or why there are none; and why changes are refused.
use Rattle.std.specs.Prelude.{◌≡◌, ℕ, ◌+◌, List, [], ◌∷◌, Option, Some, None, option_map}
use Rattle.std.specs.Bool.{⊤}
use Rattle.std.specs.Option.{option_or}
use Rattle.schema_model.specs.Catalogue.{CatalogueValue}
use Rattle.schema_model.specs.Changes.{after, after_all}
use Rattle.schema_model.specs.Refusals.{fault, group_fault}
use Rattle.schema_model.specs.declared.change.Change.{Change}
use Rattle.schema_model.specs.declared.refusal.Refusal.{Refusal}
use Rattle.flow_law.specs.Script.{script}
use Rattle.flow_law.specs.Tables.{TablesValue}
use Rattle.flow_law.specs.declared.line.TableLine.{TableLine}
use Rattle.flow_law.specs.declared.refused.IllegalLabel.{IllegalLabel}
use Rattle.flow_law.specs.declared.refused.Clash.{Clash}
use Rattle.flow_law.specs.declared.refused.EvalFault.{EvalFault}
use Rattle.flow_law.specs.declared.refused.EvalFault.TheVariants as eval
use Rattle.apply_law.specs.declared.refused.GroupRefused.{GroupRefused}
use Rattle.apply_law.specs.declared.refused.GroupRefused.TheVariants as refused

pub data Verdict : Type 0 where
  Makes : TablesValue → Verdict
  IsIllegal : IllegalLabel → Verdict
  Clashes : Clash → Verdict

-- the tables of a verdict; nothing is said where it has none
abbrev pub tables_in : Verdict → TablesValue
tables_in (Makes ts) = ts
tables_in (IsIllegal label) = []
tables_in (Clashes clash) = []

-- lines are the script from tables to those of a verdict
abbrev pub IsScriptTo : TablesValue → Verdict → List TableLine → Type 0
IsScriptTo old (Makes new) lines = lines ≡ script old new
IsScriptTo old (IsIllegal label) lines = ⊥
IsScriptTo old (Clashes clash) lines = ⊥

-- the first change that is refused behind those before it, with its place, the first of all being at this one
abbrev pub first_fault_from : ℕ → CatalogueValue → List Change → Option (ℕ × Refusal)
first_fault_from place c [] = None
first_fault_from place c (g ∷ gs) = option_or (option_map (λ (r : Refusal). (place, r)) (fault c g)) (first_fault_from (place + 1) (after c g) gs)

abbrev pub first_fault : CatalogueValue → List Change → Option (ℕ × Refusal)
first_fault c gs = first_fault_from 0 c gs

-- changes are refused so where there are no tables over the catalogue after them
abbrev pub all_refused : EvalFault → GroupRefused
all_refused (eval.Illegal label) = refused.Illegal label
all_refused (eval.Conflict clash) = refused.Conflict clash
all_refused eval.NoMemory = refused.NoMemory

-- changes of a catalogue are refused so: by the first that is refused, or else by the verdict over the catalogue after them, or there was no memory
abbrev pub IsGroupRefused : (CatalogueValue → Verdict) → CatalogueValue → List Change → GroupRefused → Type 0
IsGroupRefused verdict c gs (refused.Change place r) = first_fault c gs ≡ Some (place, r)
IsGroupRefused verdict c gs (refused.Illegal label) = (group_fault c gs ≡ None) × (verdict (after_all c gs) ≡ IsIllegal label)
IsGroupRefused verdict c gs (refused.Conflict clash) = (group_fault c gs ≡ None) × (verdict (after_all c gs) ≡ Clashes clash)
IsGroupRefused verdict c gs refused.NoMemory = ⊤
