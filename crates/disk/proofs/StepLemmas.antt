-- One step more of a disk in memory.
use Rattle.std.proofs.Common.{◌≡◌, ◌⊎◌, ℕ, ◌+◌, ◌≤◌, List, [], ◌∷◌, ◌++◌, length, take, Some, inl, inr, refl, sym, ap, ◌∙◌, subst, arith, length-append}
use Rattle.std.proofs.lemmas.Bool.{cases_lt}
use Rattle.std.proofs.lemmas.List.{take_all, take-append-le}
use Rattle.disk.specs.Disk.{Content, IsImage, MayBreakOff, BrokeOff, stable}
use Rattle.disk.specs.Moments.{Elapses}
use Rattle.disk.specs.MemDisks.{MemDiskState, after_step, after_steps, content_at, content_of, HasLeft, state_of}
use Rattle.disk.specs.declared.step.Step.{Step}
use Rattle.disk.specs.declared.step.Step.TheVariants.{Tore}

pub one_more : (held : Content) (steps : List Step) (step : Step) → after_steps held (steps ++ step ∷ []) ≡ after_step (after_steps held steps) step
one_more held [] step = refl
one_more held (s ∷ steps) step = one_more (after_step held s) steps step

pub pushed : (first : List ℕ) (old new : List Step) (step : Step) → new ≡ old ++ step ∷ [] → after_steps (stable first) new ≡ after_step (after_steps (stable first) old) step
pushed first old new step is = ap (after_steps (stable first)) is ∙ one_more (stable first) old step

module _ (s n : MemDiskState) (same : n.first ≡ s.first) where
  module _ (step : Step) (is : n.steps ≡ s.steps ++ step ∷ []) where
    len : length n.steps ≡ length s.steps + 1
    len = ap length is ∙ length-append s.steps (step ∷ []) ∙ omega arith

    before : (k : ℕ) → k ≤ length s.steps → content_at n.first n.steps k ≡ content_at s.first s.steps k
    before k le = (λ i. after_steps (stable (same i)) (take k (is i))) ∙ ap (after_steps (stable s.first)) (take-append-le k s.steps (step ∷ []) le)

    now : (k : ℕ) → length s.steps + 1 ≤ k → content_at n.first n.steps k ≡ content_of n
    now k le = ap (after_steps (stable n.first)) (take_all k n.steps (omega (arith, len)))

    pub elapses_step : Elapses (state_of s) (state_of n) (HasLeft s) (HasLeft n)
    elapses_step = record {
      later = omega (arith, len);
      nothing_else = λ t image le h. split t image h;
      keeps = λ t image le h. kept t image h;
    }
      where
        kept : (t : ℕ) (image : List ℕ) → HasLeft s t image → HasLeft n t image
        kept t image (k, from, to, h) = (k, from, omega (arith, len), subst (λ (c : Content). IsImage c image) (sym (before k to)) h)

        split : (t : ℕ) (image : List ℕ) → HasLeft n t image → HasLeft s t image ⊎ IsImage (content_of n) image
        split t image (k, from, to, h) = elim (cases_lt k (length s.steps + 1)) [
          | inl earlier ↦ inl (k, from, omega arith, subst (λ (c : Content). IsImage c image) (before k (omega arith)) h)
          | inr later ↦ inr (subst (λ (c : Content). IsImage c image) (now k later) h)
        ]

-- a write that left what a read gives broke off
pub torn_off : (at n : ℕ) (held : Content) → BrokeOff at n held (after_step held (Tore at n))
torn_off at n held = record { before = refl; after = refl; no_shorter = omega arith; no_longer = omega arith; stable = refl; written = refl }

pub torn_told : (at n : ℕ) (held new : Content) → new ≡ after_step held (Tore at n) → MayBreakOff at n (Some held) (Some new)
torn_told at n held new is = record {
  untold = λ e. absurd (cc);
  told = λ h e.
      let same : held ≡ h = cc in
      (new, refl, subst (λ (c : Content). BrokeOff at n h c) (ap (λ (c : Content). after_step c (Tore at n)) (sym same) ∙ sym is) (torn_off at n h));
}
