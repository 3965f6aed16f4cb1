-- The joins of an insert or a delete count marked combinations, each at most twice.
use Rattle.std.proofs.Common.{◌≡◌, subst, ℕ, ◌+◌, ◌*◌, ◌≤◌, suc, List, [], ◌∷◌, ◌++◌, length, map, Bool, true, false, not, cond, refl, arith, ap, sym, ◌∙◌}
use Rattle.std.specs.List.{AllZip, AllByRecursion}
use Rattle.ss_text.specs.Texts.{Text}
use Rattle.schema_model.specs.Catalogue.{CatalogueValue}
use Rattle.schema_model.specs.Changes.{after}
use Rattle.schema_model.specs.declared.change.Change.{Change}
use Rattle.plan_law.specs.Kinds.{Term, Range}
use Rattle.plan_law.specs.Kinds.range
use Rattle.view_def.specs.Query.{Query}
use Rattle.view_def.specs.Profile.{IsViewOfProfile}
use Rattle.schema_delta.specs.Net.{SameNet, IsNet}
use Rattle.schema_delta.specs.declared.spec.FlatSpec.{FlatSpec}
use Rattle.schema_delta.specs.Flat.{flat}
use Rattle.plan_law.specs.Columns.{header, spec_of}
use Rattle.plan_law.specs.Links.{own_holds, keys_hold}
use Rattle.plan_law.specs.Chain.{Sides, SideMoves, Keeps, Walks, AreNet, walk_pairs}
use Rattle.plan_law.specs.PlanRows.{specs_from, own_rows, rows_from, joints_from, plan_joints, first_rows, further_rows}
use Rattle.plan_law.specs.PlanMoves.{FlatMoved, own_moves, moves_from, first_moves, further_moves, PlanKeeps, PlanWalks}
use Rattle.plan_law.specs.Touched.{Marked, count_marked, touched, under, marked_bases}
use Rattle.plan_law.specs.Marks.{OfRow, comes, goes, holding, marked_flat}
use Rattle.plan_law.proofs.Widths.{HasWidth, flat_width}
use Rattle.plan_law.proofs.Net.{ups_come, downs_go}
use Rattle.plan_law.proofs.TouchedLaws.{marked, cells_of, weigh-parts}
use Rattle.plan_law.proofs.MarkedWalk.{Marks, kept, rows_before, mark_moves, weigh-passing, marked_passing, MarksMove, AreBefore, later_rows, last_rows, keys_of_all, marked_walk, last_few, out_few}
use Rattle.plan_law.proofs.TouchedRows.{own_marks, row_flats, keys_from, AreWide, first_marks, touched_plan}
use Rattle.plan_law.proofs.MarkedFlat.{unmarked, all_rows, insert_plain, delete_plain}
use Rattle.plan_law.proofs.First.{first_of}
use Rattle.operator_law.specs.declared.delta.Signed.{Signed}
use Rattle.operator_law.specs.Bags.{weigh, come, go, MovesBag, SameBag}
use Rattle.operator_law.proofs.Weights.{weigh-filter}

-- rows of a width are so with their marks
marked_width : (n : ℕ) (xs : Marks) → AllByRecursion (HasWidth n) (map (λ (m : Marked Text). m.0) xs) → AllByRecursion (λ (m : Marked Text). length m.0 ≡ n) xs
marked_width n [] h = tt
marked_width n (x ∷ xs) h = (h.0, marked_width n xs h.1)

module _ (c : CatalogueValue) (q : Query) (g : Change) (up : Bool) (one : OfRow g up) where
  abbrev flats : FlatSpec → Marks
  flats = marked_flat g (holding c g)

  wide : AreWide q flats
  wide k d = marked_width (length (header q k d)) (flats (spec_of q k d)) (subst (λ rows. AllByRecursion (HasWidth (length (header q k d))) rows) (sym (unmarked g (holding c g) (spec_of q k d))) (flat_width (holding c g) q k d))

  -- the flat rows before the change, and after it
  rows_then : (g : Change) (up : Bool) → OfRow g up → (s : FlatSpec) → SameBag (rows_before up (marked_flat g (holding c g) s)) (flat c s)
  rows_then _ _ (comes db rel row) s = insert_plain c db rel row s
  rows_then g _ (goes db rel row) s = all_rows g c s

  rows_now : (g : Change) (up : Bool) → OfRow g up → (s : FlatSpec) → SameBag (rows_before (not up) (marked_flat g (holding c g) s)) (flat (after c g) s)
  rows_now g _ (comes db rel row) s = all_rows g (after c g) s
  rows_now _ _ (goes db rel row) s = delete_plain c db rel row s

  -- so what takes the one to the other are the marked rows
  flats_move : (s : FlatSpec) (ms : List Signed) → MovesBag (flat c s) ms (flat (after c g) s) → SameNet ms (mark_moves up (flats s))
  flats_move s ms moved f = by_sign up (rows_then g up one s f) (rows_now g up one s f)
    where
      by_sign : (up : Bool) → weigh f (rows_before up (flats s)) ≡ weigh f (flat c s) → weigh f (rows_before (not up) (flats s)) ≡ weigh f (flat (after c g) s)
          → come f ms + go f (mark_moves up (flats s)) ≡ come f (mark_moves up (flats s)) + go f ms
      by_sign true a b = let r = ups_come f (cells_of marked (flats s)) in omega (arith, moved f, a, b, weigh-parts f (flats s), r.0, r.1)
      by_sign false a b = let r = downs_go f (cells_of marked (flats s)) in omega (arith, moved f, a, b, weigh-parts f (flats s), r.0, r.1)

  own_before : (h : List Term) (k : ℕ) (d : Range) → SameBag (rows_before up (own_marks q h (header q k d) (flats (spec_of q k d)))) (own_rows c q h k d)
  own_before h k d f =
      weigh-passing (kept up) (own_holds q h (header q k d)) f (flats (spec_of q k d))
      ∙ rows_then g up one (spec_of q k d) (λ r. cond (own_holds q h (header q k d) r) (f r) 0)
      ∙ sym (weigh-filter f (own_holds q h (header q k d)) (flat c (spec_of q k d)))

  own_move : (h : List Term) (k : ℕ) (d : Range) (ms : List Signed) → MovesBag (flat c (spec_of q k d)) ms (flat (after c g) (spec_of q k d)) → SameNet (own_moves q h (header q k d) ms) (mark_moves up (own_marks q h (header q k d) (flats (spec_of q k d))))
  own_move h k d ms moved = marked_passing up (own_holds q h (header q k d)) ms (flats (spec_of q k d)) (flats_move (spec_of q k d) ms moved)

  are_before : (ds : List Range) (h : List Term) (k : ℕ) → AreBefore up (row_flats q flats h k ds) (rows_from c q h k ds)
  are_before [] h k = tt
  are_before (range.Alias j a ∷ ds) h k = are_before ds h (suc k)
  are_before (d ∷ ds) h k = (own_before h k d, are_before ds (h ++ header q k d) (suc k))

  abbrev FlatMoves : FlatSpec → List Signed → Type 0
  FlatMoves s ms = MovesBag (flat c s) ms (flat (after c g) s)

  marks_move : (ds : List Range) (h : List Term) (k : ℕ) (deltas : List (List Signed)) → AllZip FlatMoves (specs_from q k ds) deltas → MarksMove up (row_flats q flats h k ds) (moves_from q h k ds deltas)
  marks_move [] h k deltas moved = tt
  marks_move (range.Alias j a ∷ ds) h k deltas moved = marks_move ds h (suc k) deltas moved
  marks_move (d ∷ ds) h k [] moved = absurd moved
  marks_move (d ∷ ds) h k (ms ∷ deltas) moved = (own_move h k d ms moved.0, marks_move ds (h ++ header q k d) (suc k) deltas moved.1)

  same_keys : (ds : List Range) (h : List Term) (k : ℕ) → keys_of_all (joints_from q h k ds) ≡ keys_from q flats h k ds
  same_keys [] h k = refl
  same_keys (range.Alias j a ∷ ds) h k = same_keys ds h (suc k)
  same_keys (d ∷ ds) h k = ap (λ ts. keys_hold q h (header q k d) ∷ ts) (same_keys ds (h ++ header q k d) (suc k))

  -- what the walk of the change counts, and how many moves come out
  abbrev Bounded : List Sides → List SideMoves → List Signed → List Range → Type 0
  Bounded ks ps out ds = (walk_pairs (plan_joints q ds) ks ps ≤ 2 * touched q (marked_bases flats q 0 ds)) × (IsNet out → length out ≤ touched q (marked_bases flats q 0 ds))

  module _ (ks : List Sides) (ps : List SideMoves) (out : List Signed) (net : AreNet ps) where
    bounded_from : (d : Range) (ds : List Range) → marked_bases flats q 0 (d ∷ ds) ≡ under (header q 0 d) (flats (spec_of q 0 d)) ∷ marked_bases flats q 1 ds → (deltas : List (List Signed)) → AllZip FlatMoves (spec_of q 0 d ∷ specs_from q 1 ds) deltas
        → Keeps (plan_joints q (d ∷ ds)) (first_rows c q (d ∷ ds)) (further_rows c q (d ∷ ds)) ks → Walks (plan_joints q (d ∷ ds)) ks (first_moves q (d ∷ ds) deltas) (further_moves q (d ∷ ds) deltas) ps out
        → Bounded ks ps out (d ∷ ds)
    bounded_from d ds bases [] moved keeps walks = absurd moved
    bounded_from d ds bases (ms ∷ deltas) moved keeps walks =
        let h = header q 0 d in
        let js = joints_from q (header q 0 d) 1 ds in
        let marks = first_marks q flats wide d ds in
        let further = row_flats q flats (header q 0 d) 1 ds in
        let r = marked_walk up (joints_from q (header q 0 d) 1 ds) ks (own_rows c q [] 0 d) (rows_from c q (header q 0 d) 1 ds) (first_marks q flats wide d ds) (row_flats q flats (header q 0 d) 1 ds)
        (own_moves q [] (header q 0 d) ms) (moves_from q (header q 0 d) 1 ds deltas) ps out
        keeps (own_before [] 0 d) (are_before ds (header q 0 d) 1) (own_move [] 0 d ms moved.0) (marks_move ds (header q 0 d) 1 deltas moved.1) walks net in
        let all : touched q (marked_bases flats q 0 (d ∷ ds)) ≡ count_marked (first_marks q flats wide d ds) + later_rows (keys_of_all (joints_from q (header q 0 d) 1 ds)) (first_marks q flats wide d ds) (row_flats q flats (header q 0 d) 1 ds) =
        ap (touched q) bases ∙ touched_plan q flats wide d ds
        ∙ ap (λ ts. count_marked (first_marks q flats wide d ds) + later_rows ts (first_marks q flats wide d ds) (row_flats q flats (header q 0 d) 1 ds)) (sym (same_keys ds (header q 0 d) 1)) in (
          omega (arith, all, r.0),
          λ (is_net : IsNet out). omega (arith, all, out_few up out (last_rows (joints_from q (header q 0 d) 1 ds) (first_marks q flats wide d ds) (row_flats q flats (header q 0 d) 1 ds)) is_net r.1, last_few (joints_from q (header q 0 d) 1 ds) (first_marks q flats wide d ds) (row_flats q flats (header q 0 d) 1 ds)),
        )

    pub bounded : IsViewOfProfile q → (deltas : List (List Signed)) → FlatMoved c (after c g) q deltas → PlanKeeps c q ks → PlanWalks q ks deltas ps out → Bounded ks ps out q.decls
    bounded profile deltas moved keeps walks =
        let b = first_of q profile in
        subst (Bounded ks ps out) (sym b.all) (
        bounded_from b.first b.rest (b.marks flats) deltas
        (subst (λ ss. AllZip FlatMoves ss deltas) b.specs (subst (λ ds. AllZip FlatMoves (specs_from q 0 ds) deltas) b.all moved))
        (subst (λ ds. Keeps (plan_joints q ds) (first_rows c q ds) (further_rows c q ds) ks) b.all keeps)
        (subst (λ ds. Walks (plan_joints q ds) ks (first_moves q ds deltas) (further_moves q ds deltas) ps out) b.all walks))
