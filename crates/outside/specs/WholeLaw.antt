-- Why what is told is whole.
use Rattle.std.proofs.Common.{◌≡◌, Bool, true, false, cond, ◌||◌, List, [], ◌∷◌, Option, None, Some, refl, sym, ap, ◌∙◌, subst, unwrap_or}
use Rattle.std.specs.FinMap as map
use Rattle.std.specs.FinMap.{IsAntisymmetric}
use Rattle.std.specs.List.{list_any, list_all}
use Rattle.std.specs.Ordering.{eq_by_cmp, is_eq}
use Rattle.std.specs.declared.cmp.Ordering.{Ordering}
use Rattle.std.specs.declared.cmp.Ordering.TheVariants.{Less, Equal, Greater}
use Rattle.std.proofs.lemmas.Map.Lookups.{exact_bytes, exact_pairs}
use Rattle.std.proofs.lemmas.Bool.{and_parts}
use Rattle.ss_text.specs.Texts.{text_cmp}
use Rattle.outside.specs.Tree.{Tree, Place, place_cmp, has_folder}
use Rattle.outside.specs.Whole.{IsWhole, is_whole, told}

pub is_eq_true : (o : Ordering) → is_eq o ≡ true → o ≡ Equal
is_eq_true Less h = absurd (cc)
is_eq_true Equal h = refl
is_eq_true Greater h = absurd (cc)

-- places that compare alike are one
pub place_exact : IsAntisymmetric place_cmp
place_exact = exact_pairs text_cmp text_cmp exact_bytes exact_bytes

-- one that has both of two marks, where all have the one and some has the other
marked : (f g : Place → Bool) (ks : List Place) → list_all f ks ≡ true → list_any g ks ≡ true → (x : Place) × (g x ≡ true) × (f x ≡ true)
marked f g [] all any = absurd (cc)
marked f g (k ∷ ks) all any =
    let parts = and_parts (f k) (list_all f ks) all in
    elim (g k) as (λ b. g k ≡ b → (b || list_any g ks) ≡ true → (x : Place) × (g x ≡ true) × (f x ≡ true)) [
      | true ↦ λ e _. (k, e, parts.0)
      | false ↦ λ _ any. marked f g ks parts.1 any
    ] refl any

whole_of : (t : Tree) → is_whole t ≡ true → IsWhole t
whole_of t h = record {
  folder_of = λ p there.
      let x = marked (λ q. has_folder t q.0) (eq_by_cmp place_cmp p) (map.keys t.files) h (sym (map.contains_key-keys t.files p) ∙ there) in
      let same : p ≡ x.0 = place_exact p x.0 (is_eq_true _ x.1) in
      subst (λ (q : Place). has_folder t q.0 ≡ true) (sym same) x.2;
}

told_parts : (t u : Tree) → told t ≡ Some u → (t ≡ u) × IsWhole t
unfolding told
told_parts t u h =
    elim (is_whole t) as (λ b. is_whole t ≡ b → cond b (Some t) None ≡ Some u → (t ≡ u) × IsWhole t) [
      | true ↦ λ e h. (ap (λ o. unwrap_or o t) h, whole_of t e)
      | false ↦ λ _ h. absurd (cc)
    ] refl h

pub told_is : (t u : Tree) → told t ≡ Some u → t ≡ u
told_is t u h = (told_parts t u h).0

-- a told tree is whole
pub told_is_whole : (t u : Tree) → told t ≡ Some u → IsWhole u
told_is_whole t u h = let parts = told_parts t u h in subst IsWhole parts.0 parts.1

-- a store that tells nothing
abbrev is_none : Option Tree → Type 0
is_none None = Unit {0}
is_none (Some t) = ⊥

pub nothing_told : (t : Tree) → None ≡ Some t → IsWhole t
nothing_told t h = absurd (subst is_none h tt)
