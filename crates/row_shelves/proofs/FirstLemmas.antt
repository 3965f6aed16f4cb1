-- The key of the first row, where rows change and keep their keys.
use Rattle.std.proofs.Common.{◌≡◌, ◌∷◌, [], List, refl, sym, ◌∙◌, ap, map, get_or}
use Rattle.ss_text.specs.Texts.{Row}
use Rattle.row_shelves.specs.Stocks.{Stock, stock, stock_key, rows_of}

abbrev pub first_of_rows : List Stock → Row
first_of_rows rs = stock_key (get_or rs 0 (stock [] [] 0))

pub first_stays : (g : Stock → Stock) → ((r : Stock) → stock_key (g r) ≡ stock_key r) → (rs : List Stock) → first_of_rows (map g rs) ≡ first_of_rows rs
first_stays g same [] = refl
first_stays g same (r ∷ rs) = same r

first_seen : (rs : List Stock) → first_of_rows rs ≡ (get_or (rows_of rs) 0 ([], [])).0
first_seen [] = refl
first_seen (r ∷ rs) = refl

pub first_same : (rs ts : List Stock) → rows_of rs ≡ rows_of ts → first_of_rows rs ≡ first_of_rows ts
first_same rs ts e = first_seen rs ∙ ap (λ (xs : List (Row × Row)). (get_or xs 0 ([], [])).0) e ∙ sym (first_seen ts)
