-- Lists that are seen as others, edited.
use Rattle.std.proofs.Common.{◌≡◌, ◌<◌, ◌∙◌, ◌∷◌, [], ℕ, zero, suc, List, refl, arith, ap, map, length, slice_index_or, slice_set}
use Rattle.std.specs.Prelude.{insert, remove, Result, Ok, Err, OnOk, OnErr}
use Rattle.std.specs.List.{AllByRecursion, AllZip}
use Rattle.ss_text.specs.Places.{at_place}
use Rattle.schema_model.specs.Catalogue.{CatalogueValue}
use Rattle.schema_model.specs.States.{CatalogueState, settled}

-- what holds holds where a call gave up
pub holds_on_err : {T E Q : Type 0} (r : Result T E) → Q → OnErr r Q
holds_on_err (Ok x) q = tt
holds_on_err (Err e) q = q

-- what a call that did not give up left settled over one list is settled over an equal one
pub settled_if : {A E : Type 0} (r : Result A E) (new : CatalogueState) (c d : CatalogueValue) → c ≡ d → OnOk r (new ≡ settled c) → OnOk r (new ≡ settled d)
settled_if (Ok a) new c d e h = h ∙ ap settled e
settled_if (Err x) new c d e h = tt

module _ {A B : Type 0} (seen : A → B) where
  pub set_seen : (g : B → B) (xs : List A) (i : ℕ) (new d : A) → i < length xs → seen new ≡ g (seen (slice_index_or xs i d)) → map seen (slice_set xs i new) ≡ at_place i g (map seen xs)
  set_seen g [] i new d h e = absurd (omega (arith, h))
  set_seen g (x ∷ xs) zero new d h e = ap (λ y. y ∷ map seen xs) e
  set_seen g (x ∷ xs) (suc i) new d h e = ap (λ ys. seen x ∷ ys) (set_seen g xs i new d (omega (arith, h)) e)

  -- one that was read and changed, put back
  pub put_seen : (g : B → B) (xs : List A) (i : ℕ) (shown new : A) → i < length xs → shown ≡ slice_index_or xs i shown → seen new ≡ g (seen shown) → map seen (slice_set xs i new) ≡ at_place i g (map seen xs)
  put_seen g xs i shown new h is e = set_seen g xs i new shown h (e ∙ ap (λ x. g (seen x)) is)

  pub same_seen : (xs : List A) (i : ℕ) (new d : A) → i < length xs → seen new ≡ seen (slice_index_or xs i d) → map seen (slice_set xs i new) ≡ map seen xs
  same_seen [] i new d h e = absurd (omega (arith, h))
  same_seen (x ∷ xs) zero new d h e = ap (λ y. y ∷ map seen xs) e
  same_seen (x ∷ xs) (suc i) new d h e = ap (λ ys. seen x ∷ ys) (same_seen xs i new d (omega (arith, h)) e)

  pub kept_seen : (xs : List A) (i : ℕ) (shown new : A) → i < length xs → shown ≡ slice_index_or xs i shown → seen new ≡ seen shown → map seen (slice_set xs i new) ≡ map seen xs
  kept_seen xs i shown new h is e = same_seen xs i new shown h (e ∙ ap seen is)

  pub inserted_seen : (xs : List A) (i : ℕ) (y : A) → map seen (insert xs i y) ≡ insert (map seen xs) i (seen y)
  inserted_seen [] zero y = refl
  inserted_seen [] (suc i) y = refl
  inserted_seen (x ∷ xs) zero y = refl
  inserted_seen (x ∷ xs) (suc i) y = ap (λ ys. seen x ∷ ys) (inserted_seen xs i y)

  pub removed_seen : (xs : List A) (i : ℕ) → map seen (remove xs i) ≡ remove (map seen xs) i
  removed_seen [] zero = refl
  removed_seen [] (suc i) = refl
  removed_seen (x ∷ xs) zero = refl
  removed_seen (x ∷ xs) (suc i) = ap (λ ys. seen x ∷ ys) (removed_seen xs i)

  -- what stands at a place, seen
  pub at_seen : (xs : List A) (i : ℕ) (d : A) (e : B) → i < length xs → slice_index_or (map seen xs) i e ≡ seen (slice_index_or xs i d)
  at_seen [] i d e h = absurd (omega (arith, h))
  at_seen (x ∷ xs) zero d e h = refl
  at_seen (x ∷ xs) (suc i) d e h = at_seen xs i d e (omega (arith, h))

  -- a fact of each after an edit is one of the one edited
  pub one_of_all : (P : B → Type 0) (g : B → B) (xs : List A) (i : ℕ) (d : A) → i < length xs → AllByRecursion P (at_place i g (map seen xs)) → P (g (seen (slice_index_or xs i d)))
  one_of_all P g [] i d h all = absurd (omega (arith, h))
  one_of_all P g (x ∷ xs) zero d h all = all.0
  one_of_all P g (x ∷ xs) (suc i) d h all = one_of_all P g xs i d (omega (arith, h)) all.1

  -- copies are seen alike
  pub alike_seen : (xs ys : List A) → AllZip (λ x y. seen y ≡ seen x) xs ys → map seen ys ≡ map seen xs
  alike_seen [] [] h = refl
  alike_seen [] (y ∷ ys) h = absurd h
  alike_seen (x ∷ xs) [] h = absurd h
  alike_seen (x ∷ xs) (y ∷ ys) h = ap (λ b. b ∷ map seen ys) h.0 ∙ ap (λ bs. seen x ∷ bs) (alike_seen xs ys h.1)
