-- Lists: what is left at a place, and what passes a filter.
use Rattle.std.proofs.Common.{◌≡◌, ◌<◌, ◌+◌, ◌∷◌, ◌∙◌, [], ℕ, List, Bool, true, refl, sym, ap, inl, inr, length, drop, get_or}
use Rattle.std.specs.Prelude.{filter}
use Rattle.std.specs.List.{list_all}
use Rattle.std.proofs.lemmas.Bool.{cases_Bool}
use Rattle.std.proofs.lemmas.List.{drop_more}

pub next_left : {A : Type 0} (xs : List A) (i : ℕ) (x : A) → i < length xs → x ≡ get_or xs i x → drop i xs ≡ x ∷ drop (i + 1) xs
next_left xs i x lt is = drop_more xs i x lt ∙ ap (λ (y : _). y ∷ drop (i + 1) xs) (sym is)

pub all_pass : {A : Type 0} (p : A → Bool) (xs : List A) → list_all p (filter p xs) ≡ true
all_pass p [] = refl
all_pass p (x ∷ xs) = elim (cases_Bool (p x)) [
  | inl good ↦ rw (good, good, all_pass p xs) refl
  | inr bad ↦ rw bad (all_pass p xs)
]
