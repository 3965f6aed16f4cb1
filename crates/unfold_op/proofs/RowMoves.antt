-- The moves of parts of rows are those of parts of their facts.
use Rattle.std.proofs.Common.{◌≡◌, ◌∷◌, [], List, refl, ap, map}
use Rattle.std.specs.List.{filter_map, cons_option}
use Rattle.flow_law.specs.declared.shape.Shape.{Shape}
use Rattle.operator_law.specs.declared.delta.Signed.{Signed}
use Rattle.unfold_op.specs.Moves.{key_moves, column_moves, entry_moves}
use Rattle.unfold_op.specs.FactMoves.{fact_moves, key_move, column_move, entry_move}

module _ (shape : Shape) where
  pub keys_of_rows : (ms : List Signed) → map (key_move shape) ms ≡ key_moves (fact_moves shape ms)
  keys_of_rows [] = refl
  keys_of_rows (m ∷ ms) = ap (λ ks. key_move shape m ∷ ks) (keys_of_rows ms)

  pub columns_of_rows : (ms : List Signed) → filter_map (column_move shape) ms ≡ column_moves (fact_moves shape ms)
  columns_of_rows [] = refl
  columns_of_rows (m ∷ ms) = ap (cons_option (column_move shape m)) (columns_of_rows ms)

  pub entries_of_rows : (ms : List Signed) → filter_map (entry_move shape) ms ≡ entry_moves (fact_moves shape ms)
  entries_of_rows [] = refl
  entries_of_rows (m ∷ ms) = ap (cons_option (entry_move shape m)) (entries_of_rows ms)
