-- A condition over cells is what the condition over its terms is.
use Rattle.std.proofs.Common.{◌≡◌, List, [], ◌∷◌, ◌++◌, map, Bool, ◌&&◌, ◌||◌, not, refl, ap, sym, ◌∙◌, Option}
use Rattle.std.specs.Prelude.{is_some}
use Rattle.std.proofs.lemmas.List.{map-append}
use Rattle.ss_text.specs.Texts.{Text}
use Rattle.view_def.specs.declared.typed.Term.{Term}
use Rattle.view_def.specs.declared.typed.Cond.{Cond}
use Rattle.view_def.specs.Conditions.{Condition, Conditions, AnyOf, AllOf, NotOf, Compares, none, more, condition_of, conditions_of}
use Rattle.view_def.specs.Terms.{terms_of, terms_of_each}
use Rattle.view_meaning.specs.Terms.{Reading, compares_values, are_defined, is_true, some_is_true, each_is_true}
use Rattle.plan_form.specs.declared.cell.Cell.{Cell}
use Rattle.plan_form.specs.Tests.{cell_term, placed, each_placed}

module _ (f : Term → Cell) where
  abbrev pub term_for : Term → Term
  term_for t = cell_term (f t)

  mutual
    pub placed_terms : (c : Condition) → terms_of (placed f c) ≡ map term_for (terms_of c)
    placed_terms (AnyOf cs) = each_placed_terms cs
    placed_terms (AllOf cs) = each_placed_terms cs
    placed_terms (NotOf c) = placed_terms c
    placed_terms (Compares s op t) = refl

    each_placed_terms : (cs : Conditions) → terms_of_each (each_placed f cs) ≡ map term_for (terms_of_each cs)
    each_placed_terms none = refl
    each_placed_terms (more c cs) =
        ap (λ (l : List Term). l ++ terms_of_each (each_placed f cs)) (placed_terms c)
        ∙ ap (λ (l : List Term). map term_for (terms_of c) ++ l) (each_placed_terms cs)
        ∙ sym (map-append term_for (terms_of c) (terms_of_each cs))

  module _ (r s : Reading) (same : (t : Term) → r (term_for t) ≡ s t) where
    pub defined_same : (ts : List Term) → are_defined r (map term_for ts) ≡ are_defined s ts
    defined_same [] = refl
    defined_same (t ∷ ts) =
        ap (λ (o : Option Text). is_some o && are_defined r (map term_for ts)) (same t)
        ∙ ap (λ (b : Bool). is_some (s t) && b) (defined_same ts)

    mutual
      pub true_same : (c : Condition) → is_true r (placed f c) ≡ is_true s c
      true_same (AnyOf cs) = some_same cs
      true_same (AllOf cs) = each_same cs
      true_same (NotOf c) = ap not (true_same c)
      true_same (Compares a op b) =
          ap (λ (o : Option Text). compares_values op o (r (term_for b))) (same a)
          ∙ ap (λ (o : Option Text). compares_values op (s a) o) (same b)

      some_same : (cs : Conditions) → some_is_true r (each_placed f cs) ≡ some_is_true s cs
      some_same none = refl
      some_same (more c cs) =
          ap (λ (b : Bool). b || some_is_true r (each_placed f cs)) (true_same c)
          ∙ ap (λ (b : Bool). is_true s c || b) (some_same cs)

      each_same : (cs : Conditions) → each_is_true r (each_placed f cs) ≡ each_is_true s cs
      each_same none = refl
      each_same (more c cs) =
          ap (λ (b : Bool). b && each_is_true r (each_placed f cs)) (true_same c)
          ∙ ap (λ (b : Bool). is_true s c && b) (each_same cs)

-- conditions one by one
pub placed_members : (f : Term → Cell) (ms : List Cond) → conditions_of (map (λ (e : Cond). placed f (condition_of e)) ms) ≡ each_placed f (conditions_of (map condition_of ms))
placed_members f [] = refl
placed_members f (m ∷ ms) = ap (more (placed f (condition_of m))) (placed_members f ms)
