-- How many rows stand on the first shelves.
use Rattle.std.proofs.Common.{◌≡◌, ◌<◌, ◌+◌, ℕ, List, [], ◌∷◌, ◌++◌, length, take, get_or, ap, ◌∙◌, arith, length-append}
use Rattle.std.specs.Prelude.{Vec}
use Rattle.std.proofs.lemmas.List.{take_more}
use Rattle.row_shelves.specs.Stocks.{Stock}
use Rattle.row_shelves.specs.Shelves.{all_rows}

module _ {Z : Type 0} where
  shelf_last : (shelves : List (Vec Stock Z)) (s : Vec Stock Z) → length (all_rows (shelves ++ s ∷ [])) ≡ length (all_rows shelves) + length s.items
  shelf_last [] s = omega (arith, length-append s.items [])
  shelf_last (first ∷ shelves) s = omega (arith, length-append first.items (all_rows (shelves ++ s ∷ [])), length-append first.items (all_rows shelves), shelf_last shelves s)

  -- one shelf more
  pub shelf_more : (shelves : List (Vec Stock Z)) (i : ℕ) (d : Vec Stock Z) → i < length shelves → length (all_rows (take (i + 1) shelves)) ≡ length (all_rows (take i shelves)) + length (get_or shelves i d).items
  shelf_more shelves i d lt = ap (λ ss. length (all_rows ss)) (take_more shelves i d lt) ∙ shelf_last (take i shelves) (get_or shelves i d)
