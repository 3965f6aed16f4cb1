-- What a draft keeps beside its changes.
use Rattle.std.specs.Prelude.{Bool, true, false, List, Option, None, Some}
use Rattle.schema_model.specs.Catalogue.{CatalogueValue}
use Rattle.schema_model.specs.declared.change.Change.{Change}
use Rattle.change_draft.specs.declared.draft.Kept.{Kept}
use Rattle.change_draft.specs.declared.draft.Kept.TheVariants.{Counts, Due, After}
use Rattle.change_draft.specs.Counted.{AreCounted}

-- the catalogue after the changes, where it is kept
abbrev pub after_kept : Kept → Option CatalogueValue
after_kept (Counts t) = None
after_kept Due = None
after_kept (After c) = Some c.databases

-- whether it is due
abbrev pub is_due_in : Kept → Bool
is_due_in Due = true
is_due_in k = false

-- what is counted is how often the changes name each row
abbrev pub CountedIn : Kept → List Change → Type 0
CountedIn (Counts t) gs = AreCounted t gs
CountedIn Due gs = Unit {0}
CountedIn (After c) gs = Unit {0}
