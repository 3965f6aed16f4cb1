-- How changes of a sheet move what `Fold` gives.
use Rattle.std.proofs.Common.{◌≡◌, ℕ, zero, suc, ◌+◌, ◌<◌, List, [], ◌∷◌, ◌++◌, true, false, cond, refl, arith, ap, sym, ◌∙◌, map, length, ◌&&◌}
use Rattle.std.specs.Prelude.{remove, slice_set, bytes_eq}
use Rattle.std.specs.List.{flat_map, zip, AllByRecursion, IsDistinct}
use Rattle.std.proofs.Math.Seq.{get_or-append_seam}
use Rattle.ss_text.specs.Texts.{Text, Row, is_in}
use Rattle.fold_op.specs.declared.change.SheetChange.{SheetChange}
use Rattle.fold_op.specs.declared.change.SheetChange.TheVariants.{Up, Down, Add, Drop, Rename, Born, Gone}
use Rattle.operator_law.specs.Bags.{weigh, come, MovesBag, all_signed}
use Rattle.fold_op.specs.Sheets.{SheetValue, sheet_after, IsSheet, FitsSheet, with_last, less_place}
use Rattle.operator_law.proofs.Weights.{weigh-append, weigh-map, weigh-flat_map, weigh-same, weigh-same_where, weigh-plus, weigh-none}
use Rattle.operator_law.proofs.SignedRows.{come-up, go-up, come-down, go-down, come-append, go-append, stays, all_come, all_go}
use Rattle.fold_op.specs.Cells.{has_all, places_of, cell_at, picked}
use Rattle.fold_op.specs.Flat.{replaced, entry, entries, column, fold_value, fold_moves}
use Rattle.fold_op.proofs.CellLemmas.{cell_more, cell_less, cell_renamed, same_cells, has_more, has_less, and_both}
use Rattle.fold_op.proofs.FlatLemmas.{Fit, row_comes, row_goes, replaces}

-- an attribute more, fewer and renamed, over the pairs of attribute and cell
zip_more : (g : Text × Text → ℕ) (ns row : Row) (name fill : Text) → Fit ns row → weigh g (zip (ns ++ name ∷ []) (row ++ fill ∷ [])) ≡ weigh g (zip ns row) + g (name, fill)
zip_more g [] [] name fill l = omega arith
zip_more g [] (cell ∷ row) name fill l = absurd (omega (arith, l))
zip_more g (x ∷ ns) [] name fill l = absurd (omega (arith, l))
zip_more g (x ∷ ns) (cell ∷ row) name fill l = omega (arith, zip_more g ns row name fill (omega (arith, l)))

zip_less : (g : Text × Text → ℕ) (ns row : Row) (p : ℕ) → p < length ns → Fit ns row → weigh g (zip (remove ns p) (remove row p)) + g (cell_at ns p, cell_at row p) ≡ weigh g (zip ns row)
zip_less g [] row p h l = absurd (omega (arith, h))
zip_less g (x ∷ ns) [] p h l = absurd (omega (arith, l))
zip_less g (x ∷ ns) (cell ∷ row) zero h l = omega arith
zip_less g (x ∷ ns) (cell ∷ row) (suc p) h l = omega (arith, zip_less g ns row p (omega (arith, h)) (omega (arith, l)))

zip_renamed : (g : Text × Text → ℕ) (ns row : Row) (p : ℕ) (to : Text) → p < length ns → Fit ns row → weigh g (zip (slice_set ns p to) row) + g (cell_at ns p, cell_at row p) ≡ weigh g (zip ns row) + g (cell_at (slice_set ns p to) p, cell_at row p)
zip_renamed g [] row p to h l = absurd (omega (arith, h))
zip_renamed g (x ∷ ns) [] p to h l = absurd (omega (arith, l))
zip_renamed g (x ∷ ns) (cell ∷ row) zero to h l = omega arith
zip_renamed g (x ∷ ns) (cell ∷ row) (suc p) to h l = omega (arith, zip_renamed g ns row p to (omega (arith, h)) (omega (arith, l)))

-- each row's flat rows, where all wanted cells are there
abbrev pub folds : Row → Row → List Row → List Row
folds w ns rows = cond (has_all w ns) (flat_map (entries (places_of w ns) ns) rows) []

folds_each : (w : Row) (f : Row → ℕ) (ns : Row) (rows : List Row) → weigh f (folds w ns rows) ≡ weigh (λ row. weigh f (folds w ns (row ∷ []))) rows
folds_each w f ns rows = elim (has_all w ns) as (λ b. weigh f (cond b (flat_map (entries (places_of w ns) ns) rows) []) ≡ weigh (λ row. weigh f (cond b (flat_map (entries (places_of w ns) ns) (row ∷ [])) [])) rows) [
  | true ↦
      weigh-flat_map f (entries (places_of w ns) ns) rows
      ∙ weigh-same (λ row. weigh f (entries (places_of w ns) ns row)) (λ row. weigh f (entries (places_of w ns) ns row ++ [])) (λ row. omega (arith, weigh-append f (entries (places_of w ns) ns row) [])) rows
  | false ↦ sym (weigh-none rows)
]

folds_none : (w ns : Row) → folds w ns [] ≡ []
folds_none w ns = elim (has_all w ns) as (λ b. cond {A = List Row} b [] [] ≡ []) [ true ↦ refl | false ↦ refl ]

-- what a row's flat rows weigh, pair by pair
abbrev pair_weight : (Row → ℕ) → Row → Text × Text → ℕ
pair_weight f cells e = f (entry cells e.0 e.1)

weigh-entries : (f : Row → ℕ) (w ns row : Row) → weigh f (entries (places_of w ns) ns row) ≡ weigh (pair_weight f (picked w ns row)) (zip ns row)
weigh-entries f w ns row = weigh-map f (λ (e : Text × Text). entry (picked w ns row) e.0 e.1) (zip ns row)

-- each row's flat rows after a change are those before, less some and with some
module _ (F : Row → Row) (f : Row → ℕ) (before after less more : Row → List Row) where
  over_rows : (ns : Row) → ((row : Row) → Fit ns row → weigh f (after (F row)) + weigh f (less row) ≡ weigh f (before row) + weigh f (more (F row))) → (rows : List Row) → AllByRecursion (Fit ns) rows → weigh f (flat_map after (map F rows)) + weigh f (flat_map less rows) ≡ weigh f (flat_map before rows) + weigh f (flat_map more (map F rows))
  over_rows ns step rows fit =
      let a : weigh f (flat_map after (map F rows)) ≡ weigh (λ row. weigh f (after (F row))) rows = weigh-flat_map f after (map F rows) ∙ weigh-map (λ row. weigh f (after row)) F rows in
      let m : weigh f (flat_map more (map F rows)) ≡ weigh (λ row. weigh f (more (F row))) rows = weigh-flat_map f more (map F rows) ∙ weigh-map (λ row. weigh f (more row)) F rows in
      omega (
        arith,
        a,
        m,
        weigh-flat_map f before rows,
        weigh-flat_map f less rows,
        weigh-plus (λ row. weigh f (after (F row))) (λ row. weigh f (less row)) rows,
        weigh-plus (λ row. weigh f (before row)) (λ row. weigh f (more (F row))) rows,
        weigh-same_where (Fit ns) (λ row. weigh f (after (F row)) + weigh f (less row)) (λ row. weigh f (before row) + weigh f (more (F row))) step rows fit,
      )

-- each row's flat row for the attribute at a place
abbrev columns : Row → Row → ℕ → Row → Row
columns w ns p row = entry (picked w ns row) (cell_at ns p) (cell_at row p)

-- and what they weigh
weigh-column : (f : Row → ℕ) (w ns : Row) (p : ℕ) (rows : List Row) → weigh f (column w (ns, rows) p) ≡ weigh (λ row. f (columns w ns p row)) rows
unfolding column
weigh-column f w ns p rows = weigh-map f (columns w ns p) rows

weigh-folds : (f : Row → ℕ) (w ns : Row) (rows : List Row) → weigh f (flat_map (entries (places_of w ns) ns) rows) ≡ weigh (λ row. weigh (pair_weight f (picked w ns row)) (zip ns row)) rows
weigh-folds f w ns rows = weigh-flat_map f (entries (places_of w ns) ns) rows ∙ weigh-same _ _ (λ row. weigh-entries f w ns row) rows

-- a sum over rows, where each row's parts agree
sums : (P : Row → Type 0) (a b c d : Row → ℕ) → ((row : Row) → P row → a row + b row ≡ c row + d row) → (rows : List Row) → AllByRecursion P rows → weigh a rows + weigh b rows ≡ weigh c rows + weigh d rows
sums P a b c d step rows fit =
    omega (
      arith,
      weigh-plus a b rows,
      weigh-plus c d rows,
      weigh-same_where P (λ row. a row + b row) (λ row. c row + d row) step rows fit,
    )

-- an attribute more
more_flat : (w ns : Row) (name fill : Text) (rows : List Row) → AllByRecursion (Fit ns) rows → has_all w ns ≡ true → MovesBag (flat_map (entries (places_of w ns) ns) rows) (all_signed true (column w (ns ++ name ∷ [], with_last fill rows) (length ns))) (flat_map (entries (places_of w (ns ++ name ∷ [])) (ns ++ name ∷ [])) (with_last fill rows))
more_flat w ns name fill rows fit h f =
    let ns' : Row = ns ++ name ∷ [] in
    let F : Row → Row = λ row. row ++ fill ∷ [] in
    let step : (row : Row) → Fit ns row → weigh (pair_weight f (picked w ns row)) (zip ns row) + f (columns w ns' (length ns) (F row)) ≡ weigh (pair_weight f (picked w ns' (F row))) (zip ns' (F row)) + 0 =
    λ row l.
    let same : picked w ns' (F row) ≡ picked w ns row = same_cells w ns ns' row (F row) (λ a h k. cell_more ns row name fill a h l) h (has_more w ns name h) in
    let cell : (cell_at ns' (length ns) ≡ name) × (cell_at (F row) (length ns) ≡ fill) = (last_at ns name (length ns) refl, last_at row fill (length ns) l) in
    rw (same, cell.0, cell.1) (omega (arith, zip_more (pair_weight f (picked w ns row)) ns row name fill l)) in
    omega (
      arith,
      weigh-folds f w ns rows,
      weigh-folds f w ns' (with_last fill rows),
      weigh-column f w ns' (length ns) (with_last fill rows),
      weigh-map (λ row. weigh (pair_weight f (picked w ns' row)) (zip ns' row)) F rows,
      weigh-map (λ row. f (columns w ns' (length ns) row)) F rows,
      come-up f (column w (ns', with_last fill rows) (length ns)),
      go-up f (column w (ns', with_last fill rows) (length ns)),
      sums (Fit ns) (λ row. weigh (pair_weight f (picked w ns row)) (zip ns row)) (λ row. f (columns w ns' (length ns) (F row))) (λ row. weigh (pair_weight f (picked w ns' (F row))) (zip ns' (F row))) (λ row. 0) step rows fit,
      weigh-none rows,
    )
  where
    last_at : (xs : Row) (x : Text) (k : ℕ) → length xs ≡ k → cell_at (xs ++ x ∷ []) k ≡ x
    last_at xs x k l = ap (λ j. cell_at (xs ++ x ∷ []) j) (sym l) ∙ get_or-append_seam xs x [] []

-- one fewer
less_flat : (w ns : Row) (p : ℕ) (rows : List Row) → IsDistinct bytes_eq ns → p < length ns → AllByRecursion (Fit ns) rows → has_all w (remove ns p) ≡ true → MovesBag (flat_map (entries (places_of w ns) ns) rows) (all_signed false (column w (ns, rows) p)) (flat_map (entries (places_of w (remove ns p)) (remove ns p)) (less_place p rows))
less_flat w ns p rows d h fit all f =
    let ns' : Row = remove ns p in
    let F : Row → Row = λ row. remove row p in
    let step : (row : Row) → Fit ns row → weigh (pair_weight f (picked w ns' (F row))) (zip ns' (F row)) + f (columns w ns p row) ≡ weigh (pair_weight f (picked w ns row)) (zip ns row) + 0 =
    λ row l.
    let same : picked w ns' (F row) ≡ picked w ns row = same_cells w ns ns' row (F row) (λ a h k. cell_less ns row p a d k l) (has_less w ns p all) all in
    rw same (omega (arith, zip_less (pair_weight f (picked w ns row)) ns row p h l)) in
    omega (
      arith,
      weigh-folds f w ns rows,
      weigh-folds f w ns' (less_place p rows),
      weigh-column f w ns p rows,
      weigh-map (λ row. weigh (pair_weight f (picked w ns' row)) (zip ns' row)) F rows,
      come-down f (column w (ns, rows) p),
      go-down f (column w (ns, rows) p),
      sums (Fit ns) (λ row. weigh (pair_weight f (picked w ns' (F row))) (zip ns' (F row))) (λ row. f (columns w ns p row)) (λ row. weigh (pair_weight f (picked w ns row)) (zip ns row)) (λ row. 0) step rows fit,
      weigh-none rows,
    )

-- another name
renamed_flat : (w ns : Row) (p : ℕ) (to : Text) (rows : List Row) → IsDistinct bytes_eq ns → p < length ns → is_in to ns ≡ false → AllByRecursion (Fit ns) rows → has_all w ns ≡ true → has_all w (slice_set ns p to) ≡ true → MovesBag (flat_map (entries (places_of w ns) ns) rows) (replaced (column w (ns, rows) p) (column w (slice_set ns p to, rows) p)) (flat_map (entries (places_of w (slice_set ns p to)) (slice_set ns p to)) rows)
renamed_flat w ns p to rows d h new fit all all' f =
    let ns' : Row = slice_set ns p to in
    let step : (row : Row) → Fit ns row → weigh (pair_weight f (picked w ns' row)) (zip ns' row) + f (columns w ns p row) ≡ weigh (pair_weight f (picked w ns row)) (zip ns row) + f (columns w ns' p row) =
    λ row l.
    let same : picked w ns' row ≡ picked w ns row = same_cells w ns ns' row row (λ a h k. cell_renamed ns row p to a d new h k l) all all' in
    rw same (zip_renamed (pair_weight f (picked w ns row)) ns row p to h l) in
    let gone : List Row = column w (ns, rows) p in
    let come : List Row = column w (ns', rows) p in
    omega (
      arith,
      weigh-folds f w ns rows,
      weigh-folds f w ns' rows,
      weigh-column f w ns p rows,
      weigh-column f w ns' p rows,
      come-append f (all_signed false gone) (all_signed true come),
      go-append f (all_signed false gone) (all_signed true come),
      come-down f gone,
      go-down f gone,
      come-up f come,
      go-up f come,
      sums (Fit ns) (λ row. weigh (pair_weight f (picked w ns' row)) (zip ns' row)) (λ row. f (columns w ns p row)) (λ row. weigh (pair_weight f (picked w ns row)) (zip ns row)) (λ row. f (columns w ns' p row)) step rows fit,
    )

-- what `Fold` gives
pub fold_law : (w : Row) (x : SheetValue) (g : SheetChange) → IsSheet x → FitsSheet g x → MovesBag (fold_value w x) (fold_moves w x g) (fold_value w (sheet_after g x))
unfolding fold_value
fold_law w x (Up row) s fit = row_comes (folds w) (folds_each w) x.0 x.1 row
fold_law w x (Down row) s fit = row_goes (folds w) (folds_each w) x.0 x.1 row fit
fold_law w x (Add name fill) s fit =
    let y : SheetValue = sheet_after (Add name fill) x in
    elim (has_all w x.0) as (λ b. has_all w x.0 ≡ b → MovesBag (cond b (flat_map (entries (places_of w x.0) x.0) x.1) []) (cond b (all_signed true (column w y (length x.0))) (all_signed true (fold_value w y))) (fold_value w y)) [
      | true ↦ λ e. rw (has_more w x.0 name e) (more_flat w x.0 name fill x.1 s.fits e)
      | false ↦ λ e. all_come (fold_value w y)
    ] refl
fold_law w x (Drop place) s fit =
    let y : SheetValue = sheet_after (Drop place) x in
    elim (has_all w y.0) as (λ b. has_all w y.0 ≡ b → MovesBag (fold_value w x) (cond b (all_signed false (column w x place)) (all_signed false (fold_value w x))) (cond b (flat_map (entries (places_of w y.0) y.0) y.1) [])) [
      | true ↦ λ e. rw (has_less w x.0 place e) (less_flat w x.0 place x.1 s.distinct fit s.fits e)
      | false ↦ λ e. all_go (fold_value w x)
    ] refl
fold_law w x (Rename place to) s fit =
    let y : SheetValue = sheet_after (Rename place to) x in
    elim (has_all w x.0 && has_all w y.0) as (λ b. (has_all w x.0 && has_all w y.0) ≡ b → MovesBag (fold_value w x) (cond b (replaced (column w x place) (column w y place)) (replaced (fold_value w x) (fold_value w y))) (fold_value w y)) [
      | true ↦ λ e.
          let both = and_both (has_all w x.0) (has_all w y.0) e in
          rw (both.0, both.1) (renamed_flat w x.0 place to x.1 s.distinct fit.0 fit.1 s.fits both.0 both.1)
      | false ↦ λ e. replaces (fold_value w x) (fold_value w y)
    ] refl
fold_law w x (Born attributes) s fit =
    let none : fold_value w x ≡ [] = ap (fold_value w) fit.0 ∙ folds_none w [] in
    stays _ _ (none ∙ sym (folds_none w attributes))
fold_law w x Gone s fit = rw (folds_none w []) (all_go (fold_value w x))
