-- Moves of one change behind those of others.
use Rattle.std.proofs.Common.{◌≡◌, ◌+◌, ◌<◌, ◌≤◌, ℕ, suc, List, [], ◌∷◌, ◌++◌, Option, Some, None, refl, sym, ap, ◌∙◌, subst, map, take, drop, length, get_or, add-one, arith}
use Rattle.std.specs.Prelude.{IsTrue}
use Rattle.std.specs.List.{AllByRecursion, AllZip}
use Rattle.std.specs.Option.{option_or}
use Rattle.std.proofs.Math.Seq.{drop-cons}
use Rattle.std.proofs.lemmas.List.{take_all, take_more, drop_all}
use Rattle.std.proofs.lemmas.Slice.Zip.{all_zipped_more}
use Rattle.schema_model.specs.Catalogue.{CatalogueValue}
use Rattle.schema_model.specs.Changes.{after, after_all, is_well_formed}
use Rattle.schema_model.specs.Refusals.{fault, group_fault}
use Rattle.schema_model.specs.declared.change.Change.{Change}
use Rattle.schema_model.specs.declared.refusal.Refusal.{Refusal}
use Rattle.operator_law.specs.declared.delta.Signed.{Signed}
use Rattle.operator_law.proofs.SignedRows.{stays, moves_on}
use Rattle.schema_delta.specs.Net.{SameNet}
use Rattle.schema_delta.proofs.NetLaw.{moves_net}
use Rattle.schema_delta.specs.Flat.{flat, MovesBetween}
use Rattle.schema_delta.specs.declared.spec.FlatSpec.{FlatSpec}

-- where no change is made nothing moves
pub all_stay : (c : CatalogueValue) (specs : List FlatSpec) → AllZip (MovesBetween c c) specs (map (λ s. []) specs)
all_stay c [] = tt
all_stay c (s ∷ specs) = (stays (flat c s) (flat c s) refl, all_stay c specs)

-- what holds of two lists place by place holds of their fronts and of their last elements
pub zip_last : {A B : Type 0} (R : A → B → Type 0) (xs : List A) (ys : List B) (x : A) (y : B) → AllZip R (xs ++ x ∷ []) (ys ++ y ∷ []) → AllZip R xs ys × R x y
zip_last R [] [] x y h = (tt, h.0)
zip_last R [] (z ∷ []) x y h = absurd h.1
zip_last R [] (z ∷ w ∷ ys) x y h = absurd h.1
zip_last R (z ∷ []) [] x y h = absurd h.1
zip_last R (z ∷ w ∷ xs) [] x y h = absurd h.1
zip_last R (a ∷ xs) (b ∷ ys) x y h = let rest = zip_last R xs ys x y h.1 in ((h.0, rest.0), rest.1)

-- the moves of one more declaration, with those of a change behind them
module _ (p q : CatalogueValue) (specs : List FlatSpec) (olds alls : List (List Signed)) where
  abbrev pub Behind : ℕ → Type 0
  Behind n = (c : CatalogueValue) → AllZip (MovesBetween c p) (take n specs) olds → AllZip (MovesBetween c q) (take n specs) alls

  pub all_behind : Behind (length olds) → length olds ≡ length specs → (c : CatalogueValue) → AllZip (MovesBetween c p) specs olds → AllZip (MovesBetween c q) specs alls
  all_behind behind long c h =
      let whole : take (length olds) specs ≡ specs = ap (λ n. take n specs) long ∙ take_all (length specs) specs (omega arith) in
      subst (λ (ss : List FlatSpec). AllZip (MovesBetween c q) ss alls) whole (behind c (subst (λ (ss : List FlatSpec). AllZip (MovesBetween c p) ss olds) (sym whole) h))

  pub one_behind : (n : ℕ) (s : FlatSpec) (old more all : List Signed) → Behind n → n < length specs → s ≡ get_or specs n s → all ≡ old ++ more → MovesBetween p q s more → (c : CatalogueValue)
      → AllZip (MovesBetween c p) (take (n + 1) specs) (olds ++ old ∷ []) → AllZip (MovesBetween c q) (take (n + 1) specs) (alls ++ all ∷ [])
  one_behind n s old more all behind lt at is moved c h =
      let front : take (n + 1) specs ≡ take n specs ++ s ∷ [] = take_more specs n s lt ∙ ap (λ (t : FlatSpec). take n specs ++ t ∷ []) (sym at) in
      let parts = zip_last (MovesBetween c p) (take n specs) olds s old (subst (λ (ss : List FlatSpec). AllZip (MovesBetween c p) ss (olds ++ old ∷ [])) front h) in
      let one : MovesBetween c q s all = subst (MovesBetween c q s) (sym is) (moves_on (flat c s) (flat p s) (flat q s) old more parts.1 moved) in
      subst (λ (ss : List FlatSpec). AllZip (MovesBetween c q) ss (alls ++ all ∷ [])) (sym front) (all_zipped_more (MovesBetween c q) (take n specs) alls s all (behind c parts.0) one)

-- moves in net take the flat rows as far
pub flat_nets : (c c' : CatalogueValue) (ss : List FlatSpec) (mss nss : List (List Signed)) → AllZip (MovesBetween c c') ss mss → AllZip SameNet mss nss → AllZip (MovesBetween c c') ss nss
flat_nets c c' [] [] [] moved same = tt
flat_nets c c' [] [] (ns ∷ nss) moved same = absurd same
flat_nets c c' [] (ms ∷ mss) nss moved same = absurd moved
flat_nets c c' (s ∷ ss) [] nss moved same = absurd moved
flat_nets c c' (s ∷ ss) (ms ∷ mss) [] moved same = absurd same
flat_nets c c' (s ∷ ss) (ms ∷ mss) (ns ∷ nss) moved same = (moves_net (flat c s) (flat c' s) ms ns moved.0 same.0, flat_nets c c' ss mss nss moved.1 same.1)

-- no refusal at all
neither : (a b : Option Refusal) → option_or a b ≡ None → (a ≡ None) × (b ≡ None)
neither None b e = (refl, e)
neither (Some r) b e = absurd (cc e)

-- the changes that are left from a place on can be made, and come to the same as all of them
pub record IsLeft (c : CatalogueValue) (all : List Change) (now : CatalogueValue) (i : ℕ) : Type 0 where
  pub after_them : after_all now (drop i all) ≡ after_all c all
  pub accepted : group_fault now (drop i all) ≡ None
  pub well_formed : AllByRecursion (λ g. IsTrue (is_well_formed g)) (drop i all)

module _ (c : CatalogueValue) (all : List Change) (now : CatalogueValue) (i : ℕ) (left : IsLeft c all now i) where
  module _ (g : Change) (more : i < length all) (at : g ≡ get_or all i g) where
    next : drop i all ≡ g ∷ drop (i + 1) all
    next = drop-cons all i g more ∙ rw add-one (ap (λ (h : Change). h ∷ drop (suc i) all) (sym at))

    none : (fault now g ≡ None) × (group_fault (after now g) (drop (i + 1) all) ≡ None)
    none = neither (fault now g) (group_fault (after now g) (drop (i + 1) all)) (sym (ap (group_fault now) next) ∙ left.accepted)

    formed : IsTrue (is_well_formed g) × AllByRecursion (λ g. IsTrue (is_well_formed g)) (drop (i + 1) all)
    formed = subst (AllByRecursion (λ g. IsTrue (is_well_formed g))) next left.well_formed

    pub can_make : (fault now g ≡ None) × IsTrue (is_well_formed g)
    can_make = (none.0, formed.0)

    pub one_made : IsLeft c all (after now g) (i + 1)
    one_made = record { after_them = sym (ap (after_all now) next) ∙ left.after_them; accepted = none.1; well_formed = formed.1 }

  pub all_made : length all ≤ i → now ≡ after_all c all
  all_made done = sym (ap (after_all now) (drop_all i all done)) ∙ left.after_them
