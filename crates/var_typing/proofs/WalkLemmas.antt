-- A walk from the left, one element on.
use Rattle.std.proofs.Common.{◌≡◌, ◌<◌, ◌+◌, ◌∷◌, ◌++◌, [], ℕ, Bool, true, false, List, Option, Some, None, refl, sym, ap, ◌∙◌, length, map, take, drop, get_or}
use Rattle.std.proofs.lemmas.List.{take_more, drop_more, map_more}
use Rattle.var_typing.specs.declared.fault.TypeFault.{TypeFault}
use Rattle.var_typing.specs.Refusals.{where_true, ◌or_else◌, in_turn}

pub after_none : (f g : Option TypeFault) → f ≡ None → (f or_else g) ≡ g
after_none f g e = ap (λ (h : Option TypeFault). h or_else g) e

pub at_some : (f g : Option TypeFault) (e : TypeFault) → f ≡ Some e → (f or_else g) ≡ Some e
at_some f g e h = ap (λ (h : Option TypeFault). h or_else g) h

-- where nothing is refused, neither part refuses
pub none_left : (f g : Option TypeFault) → (f or_else g) ≡ None → f ≡ None
none_left None g h = refl
none_left (Some f) g h = absurd (cc)

pub none_right : (f g : Option TypeFault) → (f or_else g) ≡ None → g ≡ None
none_right None g h = h
none_right (Some f) g h = absurd (cc)

pub not_true : (b : Bool) (f : TypeFault) → where_true b f ≡ None → b ≡ false
not_true true f h = absurd (cc)
not_true false f h = refl

module _ {A : Type 0} (judge : List A → A → Option TypeFault) (xs : List A) (i : ℕ) (x : A) (lt : i < length xs) (at : x ≡ get_or xs i x) where
  pub in_turn_more : in_turn judge (take i xs) (drop i xs) ≡ (judge (take i xs) x or_else in_turn judge (take (i + 1) xs) (drop (i + 1) xs))
  in_turn_more =
      ap (in_turn judge (take i xs)) (drop_more xs i x lt)
      ∙ ap (λ (ys : List A). judge (take i xs) (get_or xs i x) or_else in_turn judge ys (drop (i + 1) xs)) (sym (take_more xs i x lt))
      ∙ ap (λ (y : A). judge (take i xs) y or_else in_turn judge (take (i + 1) xs) (drop (i + 1) xs)) (sym at)

  module _ (whole : Option TypeFault) (left : in_turn judge (take i xs) (drop i xs) ≡ whole) where
    pub in_turn_passed : judge (take i xs) x ≡ None → in_turn judge (take (i + 1) xs) (drop (i + 1) xs) ≡ whole
    in_turn_passed h = sym (after_none (judge (take i xs) x) (in_turn judge (take (i + 1) xs) (drop (i + 1) xs)) h) ∙ sym in_turn_more ∙ left

    pub in_turn_refused : (f : TypeFault) → judge (take i xs) x ≡ Some f → whole ≡ Some f
    in_turn_refused f h = sym left ∙ in_turn_more ∙ at_some (judge (take i xs) x) (in_turn judge (take (i + 1) xs) (drop (i + 1) xs)) f h

-- one more value of a list of values
pub map_pushed : {A B : Type 0} (f : A → B) (xs : List A) (i : ℕ) (x : A) (old : List B) (y : B) → i < length xs → x ≡ get_or xs i x → old ≡ map f (take i xs) → y ≡ f x → old ++ y ∷ [] ≡ map f (take (i + 1) xs)
map_pushed {A} {B} f xs i x old y lt at before here =
    ap (λ (l : List B). l ++ y ∷ []) before ∙ ap (λ (z : B). map f (take i xs) ++ z ∷ []) (here ∙ ap f at) ∙ sym (map_more f xs i x lt)
