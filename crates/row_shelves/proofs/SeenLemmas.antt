-- Shelves that are seen as others.
use Rattle.std.proofs.Common.{◌≡◌, ◌<◌, ◌∷◌, ◌++◌, [], ℕ, Vec, List, refl, sym, ◌∙◌, ap, subst, length, map}
use Rattle.std.specs.List.{AllByRecursion}
use Rattle.std.proofs.lemmas.List.{length-map, map-append}
use Rattle.ss_text.specs.Texts.{Row}
use Rattle.ss_text.proofs.KeyLemmas.{row_order, keys_seen}
use Rattle.flow_law.specs.Tables.{key_of}
use Rattle.row_shelves.specs.Stocks.{Stock, stock_key, row_of, rows_of}
use Rattle.row_shelves.specs.Shelves.{joined, all_rows, AreShelves, IsShelf, seen_shelf, shelf_changed, same_shelf, full}

-- what a shelf is by its rows, their number and the room
record IsSeen {A : Type 0} (t : List A × ℕ × ℕ) : Type 0 where
  some : 0 < length t.0
  large : t.2 ≡ full
  room : t.1 < t.2

still_seen : (g : Stock → Stock) (ts : List (List Stock × ℕ × ℕ)) → AllByRecursion IsSeen ts → AllByRecursion IsSeen (map (shelf_changed g) ts)
still_seen g [] h = tt
still_seen g (t ∷ ts) h = (record { some = rw (length-map t.0 g) h.0.some; large = h.0.large; room = h.0.room }, still_seen g ts h.1)

keys_stay : (g : Stock → Stock) → ((r : Stock) → stock_key (g r) ≡ stock_key r) → (rs : List Stock) → map stock_key (map g rs) ≡ map stock_key rs
keys_stay g same [] = refl
keys_stay g same (r ∷ rs) = rw (same r, keys_stay g same rs) refl

pub keys_of_rows : (rs : List Stock) → map stock_key rs ≡ map key_of (rows_of rs)
keys_of_rows rs = sym (keys_seen row_order key_of row_of rs)

module _ {Z : Type 0} where
  rows_seen : (ss : List (Vec Stock Z)) → all_rows ss ≡ joined (λ (t : List Stock × ℕ × ℕ). t.0) (map seen_shelf ss)
  rows_seen [] = refl
  rows_seen (s ∷ ss) = ap (λ rs. s.items ++ rs) (rows_seen ss)

  all_changed : (g : Stock → Stock) (ss : List (Vec Stock Z)) → joined (λ (t : List Stock × ℕ × ℕ). t.0) (map (shelf_changed g) (map seen_shelf ss)) ≡ map g (all_rows ss)
  all_changed g [] = refl
  all_changed g (s ∷ ss) = ap (λ rs. map g s.items ++ rs) (all_changed g ss) ∙ sym (map-append g s.items (all_rows ss))

  pub rows_changed : (g : Stock → Stock) (ss ts : List (Vec Stock Z)) → map seen_shelf ss ≡ map (shelf_changed g) (map seen_shelf ts) → all_rows ss ≡ map g (all_rows ts)
  rows_changed g ss ts e = rows_seen ss ∙ ap (joined (λ (t : List Stock × ℕ × ℕ). t.0)) e ∙ all_changed g ts

  to_seen : (ss : List (Vec Stock Z)) → AllByRecursion IsShelf ss → AllByRecursion IsSeen (map seen_shelf ss)
  to_seen [] h = tt
  to_seen (s ∷ ss) h = (record { some = h.0.some; large = h.0.large; room = h.0.room }, to_seen ss h.1)

  from_seen : (ss : List (Vec Stock Z)) → AllByRecursion IsSeen (map seen_shelf ss) → AllByRecursion IsShelf ss
  from_seen [] h = tt
  from_seen (s ∷ ss) h = (record { some = h.0.some; large = h.0.large; room = h.0.room }, from_seen ss h.1)

  -- shelves whose rows are changed and keep their keys
  pub still_shelves : (g : Stock → Stock) → ((r : Stock) → stock_key (g r) ≡ stock_key r) → (ss ts : List (Vec Stock Z)) → map seen_shelf ss ≡ map (shelf_changed g) (map seen_shelf ts) → AreShelves ts → AreShelves ss
  still_shelves g same ss ts e h = record {
    keys = rw (rows_changed g ss ts e, keys_stay g same (all_rows ts)) h.keys;
    each = from_seen ss (subst (AllByRecursion IsSeen) (sym e) (still_seen g (map seen_shelf ts) (to_seen ts h.each)));
  }

  -- the same rows in more room
  same_seen : (ss : List (Vec Stock Z)) → rows_of (all_rows ss) ≡ joined (λ (t : List (Row × Row) × ℕ × ℕ). t.0) (map same_shelf ss)
  same_seen [] = refl
  same_seen (s ∷ ss) = map-append row_of s.items (all_rows ss) ∙ ap (λ rs. rows_of s.items ++ rs) (same_seen ss)

  pub same_rows : (ss ts : List (Vec Stock Z)) → map same_shelf ss ≡ map same_shelf ts → rows_of (all_rows ss) ≡ rows_of (all_rows ts)
  same_rows ss ts e = same_seen ss ∙ ap (joined (λ (t : List (Row × Row) × ℕ × ℕ). t.0)) e ∙ sym (same_seen ts)

  to_same : (ss : List (Vec Stock Z)) → AllByRecursion IsShelf ss → AllByRecursion IsSeen (map same_shelf ss)
  to_same [] h = tt
  to_same (s ∷ ss) h = (record { some = rw (length-map s.items row_of) h.0.some; large = h.0.large; room = h.0.room }, to_same ss h.1)

  from_same : (ss : List (Vec Stock Z)) → AllByRecursion IsSeen (map same_shelf ss) → AllByRecursion IsShelf ss
  from_same [] h = tt
  from_same (s ∷ ss) h = (record { some = rw (length-map s.items row_of) at h.0.some; large = h.0.large; room = h.0.room }, from_same ss h.1)

  pub same_shelves : (ss ts : List (Vec Stock Z)) → map same_shelf ss ≡ map same_shelf ts → AreShelves ts → AreShelves ss
  same_shelves ss ts e h = record {
    keys = rw (keys_of_rows (all_rows ss), same_rows ss ts e, sym (keys_of_rows (all_rows ts))) h.keys;
    each = from_same ss (subst (AllByRecursion IsSeen) (sym e) (to_same ts h.each));
  }
