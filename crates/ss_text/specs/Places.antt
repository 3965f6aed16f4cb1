-- Changes of elements of a list.
use Rattle.std.specs.Prelude.{ℕ, zero, suc, Bool, List, [], ◌∷◌, map, if◌then◌else◌}

-- the list with the element at a place changed; a list that has no such place stays
abbrev pub at_place : {A : Type 0} → ℕ → (A → A) → List A → List A
at_place i f [] = []
at_place zero f (x ∷ xs) = f x ∷ xs
at_place (suc i) f (x ∷ xs) = x ∷ at_place i f xs

-- the list with each element that passes a test changed
abbrev pub changed_where : {A : Type 0} → (A → Bool) → (A → A) → List A → List A
changed_where p f xs = map (λ x. if p x then f x else x) xs
