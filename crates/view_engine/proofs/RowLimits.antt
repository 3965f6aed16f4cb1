-- The steps of a move.
use Rattle.std.proofs.Common.{◌≡◌, ℕ, ◌+◌, ◌≤◌, true, false, Some, None, sym, subst, arith}
use Rattle.std.specs.Option.{ForSome}
use Rattle.schema_model.specs.Catalogue.{CatalogueValue}
use Rattle.schema_model.specs.Changes.{after}
use Rattle.schema_model.specs.declared.change.Change.{Change}
use Rattle.schema_model.specs.declared.change.Change.TheVariants.{Insert, Delete, AddAttribute, DropAttribute, RenameAttribute, CreateRelation, DropRelation, RenameRelation, CreateDatabase, DropDatabase, RenameDatabase}
use Rattle.view_def.specs.Query.{Query}
use Rattle.view_def.specs.Profile.{IsViewOfProfile}
use Rattle.plan_law.specs.Marks.{comes, goes}
use Rattle.plan_translate.specs.Plans.{PlanMoveValue}
use Rattle.plan_translate.specs.Costs.{CountsWalk, CountsPairs}
use Rattle.plan_translate.proofs.Costs.{row_counted}
use Rattle.view_engine.specs.Engines.{row_limit}

-- a bound that is there
within_some : (k old new : ℕ) → new ≤ old + k → ForSome (Some k) (λ n. new ≤ old + n)
within_some k old new h = λ n e. let same : k ≡ n = cc in subst (λ (x : ℕ). new ≤ old + x) same h

within_none : (P : ℕ → Type 0) → ForSome None P
within_none P = λ n e. absurd (cc)

-- the walk of a change of one row bounds its steps
pub within_row : (c : CatalogueValue) (q : Query) (g : Change) (old new : ℕ) → IsViewOfProfile q → CountsWalk c (after c g) q old new → ForSome (row_limit c q g) (λ n. new ≤ old + n)
within_row c q (Insert db rel row) old new profile walk = within_some _ old new (omega (arith, row_counted c (Insert db rel row) q old new true profile (comes db rel row) walk))
within_row c q (Delete db rel row) old new profile walk = within_some _ old new (omega (arith, row_counted c (Delete db rel row) q old new false profile (goes db rel row) walk))
within_row c q (AddAttribute db rel name fill) old new profile walk = within_none _
within_row c q (DropAttribute db rel name) old new profile walk = within_none _
within_row c q (RenameAttribute db rel name to) old new profile walk = within_none _
within_row c q (CreateRelation db rel attributes) old new profile walk = within_none _
within_row c q (DropRelation db rel) old new profile walk = within_none _
within_row c q (RenameRelation db rel to) old new profile walk = within_none _
within_row c q (CreateDatabase db) old new profile walk = within_none _
within_row c q (DropDatabase db) old new profile walk = within_none _
within_row c q (RenameDatabase db to) old new profile walk = within_none _

-- an engine's move has the steps of its plan's
pub counts_as : (c c' : CatalogueValue) (q : Query) (m m' : PlanMoveValue) (old now new : ℕ) → m' ≡ m → new ≡ now → CountsPairs c c' q m old now → CountsPairs c c' q m' old new
counts_as c c' q m m' old now new is steps counts = subst (λ (n : ℕ). CountsPairs c c' q m' old n) (sym steps) (subst (λ (x : PlanMoveValue). CountsPairs c c' q x old now) (sym is) counts)
