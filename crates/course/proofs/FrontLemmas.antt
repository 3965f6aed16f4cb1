-- What is done until some lines are answered is a front of what is done over them and more.
use Rattle.std.proofs.Common.{◌≡◌, ℕ, List, [], ◌∷◌, ◌++◌, Some, ◌⊎◌, inl, inr, refl, sym, ap, ◌∙◌, subst, append_assoc}
use Rattle.std.specs.Prelude.{unwrap_or}
use Rattle.outside.specs.Effects.{Effect, Contents, after, performed, Partly}
use Rattle.outside.proofs.EffectLemmas.{partly_later, nothing_yet}
use Rattle.course.specs.Answering.{Reply, Continues, Finishes, Ending, ending, follow}
use Rattle.course.proofs.AnsweringLemmas.{follow_append, goes_on}
use Rattle.course.specs.Course.{by_lines, goes_so_far}

-- effects one behind the other that broke off, in the first or behind them
pub partly_split : (es fs : List Effect) (old new : Contents) → Partly (es ++ fs) old new → Partly es old new ⊎ Partly fs (performed es old) new
unfolding Partly
partly_split [] fs old new h = inr h
partly_split (e ∷ es) fs old new h = elim h [
  | inl same ↦ inl (inl same)
  | inr rest ↦ elim rest [ inl off ↦ inl (inr (inl off)) | inr later ↦ elim (partly_split es fs (after e old) new later) [ inl here ↦ inl (inr (inr here)) | inr behind ↦ inr behind ] ]
]

-- what was done whole, and some front of it
pub partly_whole : (es : List Effect) (old new : Contents) → new ≡ performed es old → Partly es old new
unfolding Partly
partly_whole [] old new h = h
partly_whole (e ∷ es) old new h = inr (inr (partly_whole es (after e old) new h))

pub partly_front : (es fs gs : List Effect) (old new : Contents) → gs ≡ es ++ fs → new ≡ performed es old → Partly gs old new
partly_front es fs gs old new is done = subst (λ (hs : List Effect). Partly hs old new) (sym is) (partly_later es fs old new new done (nothing_yet fs new new refl))

-- what is done until some lines are answered is a front of what is done over them and more
some_same : (es fs : List Effect) → Some es ≡ Some fs → es ≡ fs
some_same es fs e = ap (λ o. unwrap_or o fs) e

module _ {A : Type 0} (step : A → List ℕ → Reply A) (finish : A → Ending) where
  pub lines_front : (r : Reply A) (xs more : List (List ℕ)) (fs : List Effect) → (by_lines step finish r).so_far xs ≡ Some fs → (rest : List Effect) × (((by_lines step finish r).whole (xs ++ more)).effects ≡ fs ++ rest)
  lines_front (Finishes es v) xs more fs e = absurd (cc e)
  lines_front (Continues es a) xs more fs e = by_reply (follow step xs (Continues [] a)) refl e
    where
      by_reply : (f : Reply A) → follow step xs (Continues [] a) ≡ f → goes_so_far es f ≡ Some fs → (rest : List Effect) × (((by_lines step finish (Continues es a)).whole (xs ++ more)).effects ≡ fs ++ rest)
      by_reply (Finishes gs v) is e = absurd (cc e)
      by_reply (Continues gs b) is e =
          let on = goes_on step finish more (Continues gs b) in (
            on.0,
            ap (λ (r : Reply A). es ++ (ending finish r).effects) (follow_append step xs more (Continues [] a) ∙ ap (follow step more) is)
                ∙ ap (λ (hs : List Effect). es ++ hs) on.1
                ∙ sym (append_assoc es gs on.0)
                ∙ ap (λ (hs : List Effect). hs ++ on.0) (some_same (es ++ gs) fs e),
          )
