-- Rows as they are seen without the room that they have.
use Rattle.std.proofs.Common.{◌≡◌, ◌∷◌, [], Bool, true, false, List, refl, ap, map}
use Rattle.std.specs.Prelude.{not, filter, if◌then◌else◌}
use Rattle.std.specs.List.{AllByRecursion}
use Rattle.std.specs.declared.cmp.Ordering.TheVariants.{Less, Equal, Greater}
use Rattle.ss_text.specs.Texts.{Row, row_eq, row_cmp}
use Rattle.ss_text.specs.Ascending.{by_order, with_element}
use Rattle.ss_text.specs.Places.{changed_where}
use Rattle.ss_text.proofs.KeyLemmas.{row_order, any_seen}
use Rattle.flow_law.specs.Tables.{key_of}
use Rattle.flow_law.specs.Lines.{by_key}
use Rattle.row_shelves.specs.Stocks.{Stock, row_of, rows_of, changed, by_stock, has_key}
use Rattle.row_shelves.specs.Values.{has_row_key}

pub key_seen : (key : Row) (rs : List Stock) → has_row_key key (rows_of rs) ≡ has_key key rs
key_seen key rs = any_seen row_order key_of row_of (λ (r : Row × Row). row_eq key r.0) rs

pub seen_with : (r : Stock) (rs : List Stock) → rows_of (with_element by_stock r rs) ≡ with_element by_key (row_of r) (rows_of rs)
seen_with r [] = refl
seen_with r (s ∷ rs) =
    elim (row_cmp r.key s.key) as (λ o. rows_of (by_order o (r ∷ s ∷ rs) (s ∷ rs) (s ∷ with_element by_stock r rs)) ≡ by_order o (row_of r ∷ row_of s ∷ rows_of rs) (row_of s ∷ rows_of rs) (row_of s ∷ with_element by_key (row_of r) (rows_of rs)))
    [ Less ↦ refl | Equal ↦ refl | Greater ↦ ap (λ xs. row_of s ∷ xs) (seen_with r rs) ]

pub seen_without : (key : Row) (rs : List Stock) → rows_of (filter (λ (r : Stock). not (row_eq key r.key)) rs) ≡ filter (λ (r : Row × Row). not (row_eq key r.0)) (rows_of rs)
seen_without key [] = refl
seen_without key (s ∷ rs) = split (row_eq key s.key) refl (seen_without key rs)
  where
    split : (b : Bool) → row_eq key s.key ≡ b → rows_of (filter (λ (r : Stock). not (row_eq key r.key)) rs) ≡ filter (λ (r : Row × Row). not (row_eq key r.0)) (rows_of rs)
        → rows_of (filter (λ (r : Stock). not (row_eq key r.key)) (s ∷ rs)) ≡ filter (λ (r : Row × Row). not (row_eq key r.0)) (rows_of (s ∷ rs))
    split true e rest = rw e rest
    split false e rest = rw e (ap (λ xs. row_of s ∷ xs) rest)

pub seen_mapped : (f : Row × Row → Row × Row) (rs : List Stock) → rows_of (map (changed f) rs) ≡ map f (rows_of rs)
seen_mapped f [] = refl
seen_mapped f (s ∷ rs) = ap (λ xs. f (row_of s) ∷ xs) (seen_mapped f rs)

pub seen_changed : (key : Row) (f : Row × Row → Row × Row) (rs : List Stock) → rows_of (changed_where (λ (r : Stock). row_eq key r.key) (changed f) rs) ≡ changed_where (λ (r : Row × Row). row_eq key r.0) f (rows_of rs)
seen_changed key f [] = refl
seen_changed key f (s ∷ rs) = split (row_eq key s.key) (seen_changed key f rs)
  where
    split : (b : Bool) → rows_of (changed_where (λ (r : Stock). row_eq key r.key) (changed f) rs) ≡ changed_where (λ (r : Row × Row). row_eq key r.0) f (rows_of rs)
        → row_of (if b then changed f s else s) ∷ rows_of (changed_where (λ (r : Stock). row_eq key r.key) (changed f) rs) ≡ (if b then f (row_of s) else row_of s) ∷ changed_where (λ (r : Row × Row). row_eq key r.0) f (rows_of rs)
    split true rest = ap (λ xs. f (row_of s) ∷ xs) rest
    split false rest = ap (λ xs. row_of s ∷ xs) rest

-- facts on rows
pub fact_of : (P : Row × Row → Type 0) (rs : List Stock) → AllByRecursion P (rows_of rs) → AllByRecursion (λ (r : Stock). P (row_of r)) rs
fact_of P [] h = tt
fact_of P (s ∷ rs) h = (h.0, fact_of P rs h.1)
