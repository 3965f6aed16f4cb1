-- Places in a list whose elements have keys.
use Rattle.std.specs.Prelude.{◌≡◌, ℕ, ◌<◌, ◌≤◌, List, length, take, drop, slice_index_or}
use Rattle.std.specs.List.{AllByRecursion}
use Rattle.std.specs.declared.cmp.Ordering.{Ordering}
use Rattle.std.specs.declared.cmp.Ordering.TheVariants.{Less, Greater}

-- the element at this place has the key
pub record IsPlaceOf {A K : Type 0} (key : A → K) (k : K) (xs : List A) (i : ℕ) : Type 0 where
  pub within : i < length xs
  pub has_key : (d : A) → key (slice_index_or xs i d) ≡ k

-- an element of the key would stand here: lesser keys before, greater ones from here on
pub record IsPlaceFor {A K : Type 0} (cmp : K → K → Ordering) (key : A → K) (k : K) (xs : List A) (i : ℕ) : Type 0 where
  pub within : i ≤ length xs
  pub before : AllByRecursion (λ x. cmp (key x) k ≡ Less) (take i xs)
  pub after : AllByRecursion (λ x. cmp (key x) k ≡ Greater) (drop i xs)
