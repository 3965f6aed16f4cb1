-- The plan's rows before and after a change.
use Rattle.std.proofs.Common.{◌≡◌, subst, ℕ, suc, List, [], ◌∷◌, ◌++◌, filter, cond, arith, sym, ◌∙◌}
use Rattle.std.specs.Prelude.{zip}
use Rattle.std.specs.List.{AllZip}
use Rattle.ss_text.specs.Texts.{Row}
use Rattle.schema_model.specs.Catalogue.{CatalogueValue}
use Rattle.schema_model.specs.Sound.{IsSound}
use Rattle.plan_law.specs.Kinds.{Term, Range}
use Rattle.plan_law.specs.Kinds.range
use Rattle.view_def.specs.Query.{Query}
use Rattle.view_def.specs.Profile.{IsViewOfProfile}
use Rattle.flow_law.specs.Facts.{Fact}
use Rattle.flow_law.specs.FactRows.{fact_row}
use Rattle.view_meaning.specs.Terms.{Reading}
use Rattle.view_meaning.specs.Valuations.{counts}
use Rattle.view_meaning.specs.Meaning.{fact_of, facts}
use Rattle.schema_delta.specs.declared.spec.FlatSpec.{FlatSpec}
use Rattle.schema_delta.specs.Flat.{flat}
use Rattle.plan_law.specs.Columns.{header, spec_of, read}
use Rattle.plan_law.specs.Links.{own_holds}
use Rattle.plan_law.specs.Chain.{Sides, SideMoves, Keeps, EachMoved, Walks, Commits}
use Rattle.plan_law.specs.PlanRows.{specs_from, own_rows, rows_from, joints_from, plan_joints, first_rows, further_rows, plan_rows, plan_header, row_facts}
use Rattle.plan_law.specs.PlanMoves.{FlatMoved, own_moves, moves_from, first_moves, further_moves, PlanKeeps, PlanWalks, fact_rows, fact_moves}
use Rattle.plan_law.proofs.ChainLaw.{chain_moved, chain_kept}
use Rattle.plan_law.proofs.First.{First}
use Rattle.plan_law.proofs.PlanLists.{rows_list_facts}
use Rattle.operator_law.specs.declared.delta.Signed.{Signed}
use Rattle.operator_law.specs.Bags.{signed, weigh, come, go, MovesBag}
use Rattle.operator_law.proofs.Weights.{weigh-map, weigh-filter}
use Rattle.operator_law.proofs.SignedRows.{moves_filtered, come-filtered, go-filtered}

module _ (c c' : CatalogueValue) (q : Query) where
  abbrev FlatMoves : FlatSpec → List Signed → Type 0
  FlatMoves s ms = MovesBag (flat c s) ms (flat c' s)

  own_moved : (h : List Term) (k : ℕ) (d : Range) (ms : List Signed) → FlatMoves (spec_of q k d) ms → MovesBag (own_rows c q h k d) (own_moves q h (header q k d) ms) (own_rows c' q h k d)
  own_moved h k d ms moved = moves_filtered (own_holds q h (header q k d)) ms (flat c (spec_of q k d)) (flat c' (spec_of q k d)) moved

  rows_moved : (ds : List Range) (h : List Term) (k : ℕ) (deltas : List (List Signed)) → AllZip FlatMoves (specs_from q k ds) deltas → EachMoved (rows_from c q h k ds) (moves_from q h k ds deltas) (rows_from c' q h k ds)
  rows_moved [] h k deltas moved = tt
  rows_moved (range.Alias j a ∷ ds) h k deltas moved = rows_moved ds h (suc k) deltas moved
  rows_moved (d ∷ ds) h k [] moved = absurd moved
  rows_moved (d ∷ ds) h k (ms ∷ deltas) moved = (own_moved h k d ms moved.0, rows_moved ds (h ++ header q k d) (suc k) deltas moved.1)

  module _ (ks : List Sides) (ps : List SideMoves) (out : List Signed) where
    abbrev MovedAt : List Range → List (List Signed) → Type 0
    MovedAt ds deltas = AllZip FlatMoves (specs_from q 0 ds) deltas

    abbrev KeepsAt : CatalogueValue → List Range → List Sides → Type 0
    KeepsAt c ds ks = Keeps (plan_joints q ds) (first_rows c q ds) (further_rows c q ds) ks

    abbrev WalksAt : List Range → List (List Signed) → Type 0
    WalksAt ds deltas = Walks (plan_joints q ds) ks (first_moves q ds deltas) (further_moves q ds deltas) ps out

    moved_from : (d : Range) (ds : List Range) (deltas : List (List Signed)) → AllZip FlatMoves (spec_of q 0 d ∷ specs_from q 1 ds) deltas → KeepsAt c (d ∷ ds) ks → WalksAt (d ∷ ds) deltas
        → MovesBag (plan_rows c q (d ∷ ds)) out (plan_rows c' q (d ∷ ds))
    moved_from d ds [] moved keeps walks = absurd moved
    moved_from d ds (ms ∷ deltas) moved keeps walks =
        chain_moved (joints_from q (header q 0 d) 1 ds) ks (own_rows c q [] 0 d) (own_rows c' q [] 0 d) (rows_from c q (header q 0 d) 1 ds) (rows_from c' q (header q 0 d) 1 ds)
        (own_moves q [] (header q 0 d) ms) out (moves_from q (header q 0 d) 1 ds deltas) ps
        keeps (own_moved [] 0 d ms moved.0) (rows_moved ds (header q 0 d) 1 deltas moved.1) walks

    kept_from : (d : Range) (ds : List Range) (deltas : List (List Signed)) (ls : List Sides) → AllZip FlatMoves (spec_of q 0 d ∷ specs_from q 1 ds) deltas → KeepsAt c (d ∷ ds) ks → WalksAt (d ∷ ds) deltas
        → Commits ks ps ls → KeepsAt c' (d ∷ ds) ls
    kept_from d ds [] ls moved keeps walks commits = absurd moved
    kept_from d ds (ms ∷ deltas) ls moved keeps walks commits =
        chain_kept (joints_from q (header q 0 d) 1 ds) ks ls (own_rows c q [] 0 d) (own_rows c' q [] 0 d) (rows_from c q (header q 0 d) 1 ds) (rows_from c' q (header q 0 d) 1 ds)
        (own_moves q [] (header q 0 d) ms) out (moves_from q (header q 0 d) 1 ds deltas) ps
        keeps (own_moved [] 0 d ms moved.0) (rows_moved ds (header q 0 d) 1 deltas moved.1) walks commits

    module _ (b : First q) (deltas : List (List Signed)) (moved : FlatMoved c c' q deltas) (keeps : PlanKeeps c q ks) (walks : PlanWalks q ks deltas ps out) where
      flat_moved : AllZip FlatMoves (spec_of q 0 b.first ∷ specs_from q 1 b.rest) deltas
      flat_moved = subst (λ ss. AllZip FlatMoves ss deltas) b.specs (subst (λ ds. MovedAt ds deltas) b.all moved)

      first_keeps : KeepsAt c (b.first ∷ b.rest) ks
      first_keeps = subst (λ ds. KeepsAt c ds ks) b.all keeps

      first_walks : WalksAt (b.first ∷ b.rest) deltas
      first_walks = subst (λ ds. WalksAt ds deltas) b.all walks

      -- what comes out of the walk takes the plan's rows to those after the change
      pub plan_moved : MovesBag (plan_rows c q q.decls) out (plan_rows c' q q.decls)
      plan_moved = subst (λ ds. MovesBag (plan_rows c q ds) out (plan_rows c' q ds)) (sym b.all) (moved_from b.first b.rest deltas flat_moved first_keeps first_walks)

      -- and when the sides are moved they stand for the catalogue after it
      pub plan_kept : (ls : List Sides) → Commits ks ps ls → PlanKeeps c' q ls
      plan_kept ls commits = subst (λ ds. KeepsAt c' ds ls) (sym b.all) (kept_from b.first b.rest deltas ls flat_moved first_keeps first_walks commits)

-- ---- the facts
abbrev reading : Query → Row → Reading
reading q row = read q (zip (plan_header q) row)

-- what the fact of a row weighs, where it counts
abbrev fact_weight : Query → (Fact → ℕ) → Row → ℕ
fact_weight q f row = cond (counts q (reading q row)) (f (fact_of q (reading q row))) 0

rows_weigh : (q : Query) (f : Fact → ℕ) (rows : List Row) → weigh f (row_facts q (plan_header q) rows) ≡ weigh (fact_weight q f) rows
rows_weigh q f rows =
    weigh-map f (λ row. fact_of q (reading q row)) (filter (λ row. counts q (reading q row)) rows)
    ∙ weigh-filter _ (λ row. counts q (reading q row)) rows

facts_weigh : (c : CatalogueValue) (q : Query) → IsSound c → IsViewOfProfile q → (f : Row → ℕ) → weigh f (fact_rows c q) ≡ weigh (fact_weight q (λ x. f (fact_row x))) (plan_rows c q q.decls)
facts_weigh c q sound profile f =
    weigh-map f fact_row (facts c q)
    ∙ rows_list_facts c q sound profile (λ x. f (fact_row x))
    ∙ rows_weigh q (λ x. f (fact_row x)) (plan_rows c q q.decls)

abbrev fact_move : Query → Signed → Signed
fact_move q m = signed m.up (fact_row (fact_of q (reading q m.row)))

come_weigh : (q : Query) (f : Row → ℕ) (ms : List Signed) → come f (fact_moves q ms) ≡ come (fact_weight q (λ x. f (fact_row x))) ms
come_weigh q f ms =
    weigh-map (λ (m : Signed). cond m.up (f m.row) 0) (fact_move q) (filter (λ (m : Signed). counts q (reading q m.row)) ms)
    ∙ come-filtered (λ row. f (fact_row (fact_of q (reading q row)))) (λ row. counts q (reading q row)) ms

go_weigh : (q : Query) (f : Row → ℕ) (ms : List Signed) → go f (fact_moves q ms) ≡ go (fact_weight q (λ x. f (fact_row x))) ms
go_weigh q f ms =
    weigh-map (λ (m : Signed). cond m.up 0 (f m.row)) (fact_move q) (filter (λ (m : Signed). counts q (reading q m.row)) ms)
    ∙ go-filtered (λ row. f (fact_row (fact_of q (reading q row)))) (λ row. counts q (reading q row)) ms

-- so they take the fact rows to those after the change
pub facts_moved : (c c' : CatalogueValue) (q : Query) (out : List Signed) → IsSound c → IsSound c' → IsViewOfProfile q → MovesBag (plan_rows c q q.decls) out (plan_rows c' q q.decls)
    → MovesBag (fact_rows c q) (fact_moves q out) (fact_rows c' q)
facts_moved c c' q out sound sound' profile moves f =
    omega (
      arith,
      facts_weigh c q sound profile f,
      facts_weigh c' q sound' profile f,
      come_weigh q f out,
      go_weigh q f out,
      moves (fact_weight q (λ x. f (fact_row x))),
    )
