-- Changes that wait to be made together, over a catalogue.
use Rattle.std.specs.Prelude.{◌≡◌, Bool, false, List, [], map, Option, None, IsTrue, IfSome}
use Rattle.std.specs.List.{AllByRecursion}
use Rattle.schema_model.specs.Catalogue.{RelationValue, CatalogueValue}
use Rattle.schema_model.specs.Changes.{after_all, is_well_formed, with_relations}
use Rattle.schema_model.specs.Refusals.{group_fault}
use Rattle.schema_model.specs.declared.change.Change.{Change}

-- the changes that a draft holds, the catalogue after them, where it keeps one, and whether that one is due: it is made
-- before the next change is judged
pub record DraftState : Type 0 where
  pub changes : List Change
  pub after : Option CatalogueValue
  pub is_due : Bool

abbrev pub empty : DraftState
empty = record { changes = []; after = None; is_due = false }

-- a relation without its rows, and a catalogue whose relations have none
abbrev pub bare : RelationValue → RelationValue
bare r = record r { rows = [] }

abbrev pub without_rows : CatalogueValue → CatalogueValue
without_rows c = map (with_relations (map bare)) c

-- a draft stands over the catalogue that its changes are for, which refuses none of them
pub record StandsOver (d : DraftState) (c : CatalogueValue) : Type 0 where
  pub after : IfSome d.after (λ k. k ≡ after_all c d.changes)
  pub accepted : group_fault c d.changes ≡ None
  pub well_formed : AllByRecursion (λ g. IsTrue (is_well_formed g)) d.changes
