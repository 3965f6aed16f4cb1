-- What holds of a disk in memory at each moment.
use Rattle.std.proofs.Common.{◌≡◌, ℕ, ◌+◌, ◌≤◌, List, [], ◌∷◌, ◌++◌, length, take, drop, Some, sym, subst, arith, length-append, length-take, length-drop}
use Rattle.std.proofs.lemmas.List.{take_all}
use Rattle.disk.specs.Disk.{Content, IsImage, stable, overwritten}
use Rattle.disk.specs.MemDisks.{MemDiskState, after_step, after_steps, content_of, HasLeft}
use Rattle.disk.specs.declared.step.Step.{Step}
use Rattle.disk.specs.declared.step.Step.TheVariants.{Wrote, Tore, Synced}

pub no_shorter_written : (at : ℕ) (bytes old : List ℕ) → length old ≤ length (overwritten at bytes old)
no_shorter_written at bytes old =
    omega (arith, length-append (take at old ++ bytes) (drop (at + length bytes) old), length-append (take at old) bytes, length-take at old, length-drop (at + length bytes) old)

step_whole : (held : Content) (step : Step) → held.stable ≤ length held.bytes → (after_step held step).stable ≤ length (after_step held step).bytes
step_whole held (Wrote at bytes) h = omega (arith, no_shorter_written at bytes held.bytes)
step_whole held (Tore at len) h = h
step_whole held Synced h = omega arith

-- the stable size lies in the file
pub steps_whole : (held : Content) (steps : List Step) → held.stable ≤ length held.bytes → (after_steps held steps).stable ≤ length (after_steps held steps).bytes
steps_whole held [] h = h
steps_whole held (step ∷ steps) h = steps_whole (after_step held step) steps (step_whole held step h)

pub told_reads : (s : MemDiskState) (held : Content) → Some (content_of s) ≡ Some held → held.stable ≤ length held.bytes
told_reads s held e =
    let same : content_of s ≡ held = cc in
    subst (λ (c : Content). c.stable ≤ length c.bytes) same (steps_whole (stable s.first) s.steps (omega arith))

pub told_now : (s : MemDiskState) (t : ℕ) (image : List ℕ) → t ≤ length s.steps → IsImage (content_of s) image → HasLeft s t image
told_now s t image le h =
    let all : take (length s.steps) s.steps ≡ s.steps = take_all (length s.steps) s.steps (omega arith) in
    (length s.steps, le, omega arith, subst (λ (steps : List Step). IsImage (after_steps (stable s.first) steps) image) (sym all) h)

pub told_only_now : (s : MemDiskState) (image : List ℕ) → HasLeft s (length s.steps) image → IsImage (content_of s) image
told_only_now s image (k, from, to, h) =
    let all : take k s.steps ≡ s.steps = take_all k s.steps (omega arith) in
    subst (λ (steps : List Step). IsImage (after_steps (stable s.first) steps) image) all h
