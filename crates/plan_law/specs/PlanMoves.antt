-- How a plan stands for a catalogue, and how a change moves it.
use Rattle.std.specs.Prelude.{suc, List, [], ◌∷◌, ◌++◌, map, filter, zip, ℕ}
use Rattle.std.specs.List.{AllZip}
use Rattle.ss_text.specs.Texts.{Row}
use Rattle.schema_model.specs.Catalogue.{CatalogueValue}
use Rattle.view_def.specs.Query.{Query}
use Rattle.flow_law.specs.FactRows.{fact_row}
use Rattle.view_meaning.specs.Valuations.{counts}
use Rattle.view_meaning.specs.Meaning.{fact_of, facts}
use Rattle.plan_law.specs.Kinds.{Term, Range}
use Rattle.plan_law.specs.Kinds.range
use Rattle.schema_delta.specs.Flat.{flat}
use Rattle.plan_law.specs.Columns.{header, read}
use Rattle.plan_law.specs.Links.{own_holds}
use Rattle.plan_law.specs.Chain.{Joint, Sides, SideMoves, Keeps, Walks}
use Rattle.plan_law.specs.PlanRows.{specs_from, plan_joints, first_rows, further_rows, plan_header}
use Rattle.operator_law.specs.declared.delta.Signed.{Signed}
use Rattle.operator_law.specs.Bags.{signed, MovesBag}

-- these take the flat rows of each base declaration from one catalogue to another
abbrev pub FlatMoved : CatalogueValue → CatalogueValue → Query → List (List Signed) → Type 0
FlatMoved c c' q deltas = AllZip (λ s ms. MovesBag (flat c s) ms (flat c' s)) (specs_from q 0 q.decls) deltas

-- the moves of flat rows that pass their own tests
abbrev pub own_moves : Query → List Term → List Term → List Signed → List Signed
own_moves q h d ms = filter (λ (m : Signed). own_holds q h d m.row) ms

-- those of the base declarations from place k on, behind rows under these terms
abbrev pub moves_from : Query → List Term → ℕ → List Range → List (List Signed) → List (List Signed)
moves_from q h k [] deltas = []
moves_from q h k (range.Alias j a ∷ ds) deltas = moves_from q h (suc k) ds deltas
moves_from q h k (d ∷ ds) [] = []
moves_from q h k (d ∷ ds) (ms ∷ deltas) = own_moves q h (header q k d) ms ∷ moves_from q (h ++ header q k d) (suc k) ds deltas

-- those of the first declaration, and of each further one
abbrev pub first_moves : Query → List Range → List (List Signed) → List Signed
first_moves q (d ∷ ds) (ms ∷ deltas) = own_moves q [] (header q 0 d) ms
first_moves q ds deltas = []

abbrev pub further_moves : Query → List Range → List (List Signed) → List (List Signed)
further_moves q (d ∷ ds) (ms ∷ deltas) = moves_from q (header q 0 d) 1 ds deltas
further_moves q ds deltas = []

-- the sides stand for a catalogue: each join keeps what comes to it, in some order
abbrev pub PlanKeeps : CatalogueValue → Query → List Sides → Type 0
PlanKeeps c q ks = Keeps (plan_joints q q.decls) (first_rows c q q.decls) (further_rows c q q.decls) ks

-- the walk of a change from join to join: the moves of the flat rows, those of each join's sides, and those that come out
abbrev pub PlanWalks : Query → List Sides → List (List Signed) → List SideMoves → List Signed → Type 0
PlanWalks q ks deltas ps out = Walks (plan_joints q q.decls) ks (first_moves q q.decls deltas) (further_moves q q.decls deltas) ps out

-- the sides of a plan that keeps nothing yet
abbrev pub no_sides : Query → List Sides
no_sides q = map (λ (j : Joint). record { left = []; right = [] }) (plan_joints q q.decls)

-- the facts of a view as rows
abbrev pub fact_rows : CatalogueValue → Query → List Row
fact_rows c q = map fact_row (facts c q)

-- their moves, by the moves of the plan's rows that count
abbrev pub fact_moves : Query → List Signed → List Signed
fact_moves q ms =
    map (λ (m : Signed). signed m.up (fact_row (fact_of q (read q (zip (plan_header q) m.row))))) (filter (λ (m : Signed). counts q (read q (zip (plan_header q) m.row))) ms)
