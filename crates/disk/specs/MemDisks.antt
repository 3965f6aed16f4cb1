-- A disk in memory, as contracts see it.
use Rattle.std.specs.Prelude.{ℕ, ◌+◌, ◌≤◌, List, [], ◌∷◌, length, take, Some}
use Rattle.outside.specs.Calls.{Calls, faults_of}
use Rattle.disk.specs.Disk.{Content, DiskState, IsImage, stable, with_written, with_synced}
use Rattle.disk.specs.declared.step.Step.{Step}
use Rattle.disk.specs.declared.step.Step.TheVariants.{Wrote, Tore, Synced}

-- the bytes that it began with, what was done since, and its calls
pub record MemDiskState : Type 0 where
  pub first : List ℕ
  pub steps : List Step
  pub calls : Calls

-- a failed write leaves what a read gives
abbrev pub after_step : Content → Step → Content
after_step held (Wrote at bytes) = with_written at bytes held
after_step held (Tore at len) = record held { written = record { from = at; to = at + len } ∷ held.written }
after_step held Synced = with_synced held

abbrev pub after_steps : Content → List Step → Content
after_steps held [] = held
after_steps held (step ∷ steps) = after_steps (after_step held step) steps

-- what it holds after its first k steps
abbrev pub content_at : List ℕ → List Step → ℕ → Content
content_at first steps k = after_steps (stable first) (take k steps)

abbrev pub content_of : MemDiskState → Content
content_of s = after_steps (stable s.first) s.steps

-- what a crash at some moment from t on might have left
abbrev pub HasLeft : MemDiskState → ℕ → List ℕ → Type 0
HasLeft s t image = (k : ℕ) × (t ≤ k) × (k ≤ length s.steps) × IsImage (content_at s.first s.steps k) image

-- what is known of it
abbrev pub state_of : MemDiskState → DiskState
state_of s = record { content = Some (content_of s); faults = faults_of s.calls; moment = length s.steps }
