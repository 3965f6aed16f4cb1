-- The elements of a list, each once and ascending, and the least of them.
use Rattle.std.specs.Prelude.{List, [], ◌∷◌, Option, Some, None}
use Rattle.std.specs.declared.cmp.Ordering.{Ordering}
use Rattle.std.specs.declared.cmp.Ordering.TheVariants.{Less, Equal, Greater}

-- the one that an order names
abbrev pub by_order : {A : Type 0} → Ordering → A → A → A → A
by_order Less a b c = a
by_order Equal a b c = b
by_order Greater a b c = c

module _ {A : Type 0} (cmp : A → A → Ordering) where
  -- an ascending list with x in it
  abbrev pub with_element : A → List A → List A
  with_element x [] = x ∷ []
  with_element x (y ∷ ys) = by_order (cmp x y) (x ∷ y ∷ ys) (y ∷ ys) (y ∷ with_element x ys)

  -- the elements of a list, each once, ascending
  abbrev pub ascending : List A → List A
  ascending [] = []
  ascending (x ∷ xs) = with_element x (ascending xs)

  -- the lesser of an element and one that may be there
  abbrev pub lesser : A → Option A → Option A
  lesser a None = Some a
  lesser a (Some b) = by_order (cmp a b) (Some a) (Some a) (Some b)

  -- the least element of a list
  abbrev pub least : List A → Option A
  least [] = None
  least (x ∷ xs) = lesser x (least xs)
