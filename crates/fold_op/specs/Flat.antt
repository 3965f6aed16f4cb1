-- What a sheet gives, and how its changes move it.
use Rattle.std.specs.Prelude.{ℕ, true, false, cond, ◌&&◌, List, [], ◌∷◌, ◌++◌, map, remove, slice_set, length}
use Rattle.std.specs.List.{flat_map, zip}
use Rattle.ss_text.specs.Texts.{Text, Row}
use Rattle.operator_law.specs.declared.delta.Signed.{Signed}
use Rattle.fold_op.specs.declared.change.SheetChange.{SheetChange}
use Rattle.fold_op.specs.declared.change.SheetChange.TheVariants.{Up, Down, Add, Drop, Rename, Born, Gone}
use Rattle.operator_law.specs.Bags.{all_signed}
use Rattle.fold_op.specs.Sheets.{SheetValue, sheet_after}
use Rattle.operator_law.specs.Rows.{cells_at}
use Rattle.fold_op.specs.Cells.{has_all, places_of, cell_at, picked}

-- the wanted cells of each row; nothing where an attribute is missing
abbrev pub pick_value : Row → SheetValue → List Row
pick_value wanted x = cond (has_all wanted x.0) (map (picked wanted x.0) x.1) []

-- a row's flat row for an attribute: these cells, the attribute's name and its cell
abbrev pub entry : Row → Text → Text → Row
entry cells name cell = cells ++ name ∷ cell ∷ []

-- a row's flat rows, one for each attribute
abbrev pub entries : List ℕ → Row → Row → List Row
entries places attributes row = map (λ (e : Text × Text). entry (cells_at places row) e.0 e.1) (zip attributes row)

unfoldable pub fold_value : Row → SheetValue → List Row
fold_value wanted x = cond (has_all wanted x.0) (flat_map (entries (places_of wanted x.0) x.0) x.1) []

-- each row's flat row for the attribute at a place
unfoldable pub column : Row → SheetValue → ℕ → List Row
column wanted x place = map (λ row. entry (picked wanted x.0 row) (cell_at x.0 place) (cell_at row place)) x.1

-- all rows that were given go, and all that are given come
abbrev pub replaced : List Row → List Row → List Signed
replaced xs ys = all_signed false xs ++ all_signed true ys

-- how a change of the sheet moves what `Pick` gives
abbrev pub pick_moves : Row → SheetValue → SheetChange → List Signed
pick_moves wanted x (Up row) = all_signed true (pick_value wanted (x.0, row ∷ []))
pick_moves wanted x (Down row) = all_signed false (pick_value wanted (x.0, row ∷ []))
pick_moves wanted x (Add name fill) =
    cond (has_all wanted x.0) [] (all_signed true (pick_value wanted (sheet_after (Add name fill) x)))
pick_moves wanted x (Drop place) =
    cond (has_all wanted (remove x.0 place)) [] (all_signed false (pick_value wanted x))
pick_moves wanted x (Rename place to) =
    cond (has_all wanted x.0 && has_all wanted (slice_set x.0 place to)) []
    (replaced (pick_value wanted x) (pick_value wanted (sheet_after (Rename place to) x)))
pick_moves wanted x (Born attributes) = []
pick_moves wanted x Gone = all_signed false (pick_value wanted x)

-- and what `Fold` gives
abbrev pub fold_moves : Row → SheetValue → SheetChange → List Signed
fold_moves wanted x (Up row) = all_signed true (fold_value wanted (x.0, row ∷ []))
fold_moves wanted x (Down row) = all_signed false (fold_value wanted (x.0, row ∷ []))
fold_moves wanted x (Add name fill) =
    let y = sheet_after (Add name fill) x in
    cond (has_all wanted x.0) (all_signed true (column wanted y (length x.0))) (all_signed true (fold_value wanted y))
fold_moves wanted x (Drop place) =
    cond (has_all wanted (remove x.0 place)) (all_signed false (column wanted x place)) (all_signed false (fold_value wanted x))
fold_moves wanted x (Rename place to) =
    let y = sheet_after (Rename place to) x in
    cond (has_all wanted x.0 && has_all wanted y.0) (replaced (column wanted x place) (column wanted y place))
    (replaced (fold_value wanted x) (fold_value wanted y))
fold_moves wanted x (Born attributes) = []
fold_moves wanted x Gone = all_signed false (fold_value wanted x)
