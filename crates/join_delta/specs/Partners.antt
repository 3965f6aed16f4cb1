-- The pairs of one move with rows or moves of the other side, whose cells may stand first.
use Rattle.std.specs.Prelude.{ℕ, List, ◌++◌, Bool, cond, filter, map}
use Rattle.ss_text.specs.Texts.{Row}
use Rattle.row_links.specs.Parts.{cells_at, same_cells}
use Rattle.operator_law.specs.declared.delta.Signed.{Signed}
use Rattle.join_delta.specs.Joined.{signs}

-- the pair of a move and a kept row
abbrev pub paired : Bool → Signed → Row → Signed
paired kept_first m y = record { row = cond kept_first (y ++ m.row) (m.row ++ y); up = m.up }

-- whether a row has at the key the cells that another has at some positions
abbrev pub has_cells : List ℕ → List ℕ → Row → Row → Bool
has_cells key positions row y = same_cells (cells_at key y) (cells_at positions row)

-- the kept rows that have a move's cells at the key, and its pairs with them
abbrev pub beside : List ℕ → List ℕ → List Row → Signed → List Row
beside key positions rows m = filter (has_cells key positions m.row) rows

abbrev pub pairs_of : Bool → List ℕ → List ℕ → List Row → Signed → List Signed
pairs_of kept_first key positions rows m = map (paired kept_first m) (beside key positions rows m)

-- the pair of two moves
abbrev pub crossed : Bool → Signed → Signed → Signed
crossed other_first m n = record { row = cond other_first (n.row ++ m.row) (m.row ++ n.row); up = signs m.up n.up }

-- whether another move has a move's cells at the key, and the pairs with all that have
abbrev pub is_beside : List ℕ → List ℕ → Signed → Signed → Bool
is_beside other_key key m n = has_cells other_key key m.row n.row

abbrev pub crossed_with : Bool → List ℕ → List ℕ → List Signed → Signed → List Signed
crossed_with other_first other_key key ns m = map (crossed other_first m) (filter (is_beside other_key key m) ns)
