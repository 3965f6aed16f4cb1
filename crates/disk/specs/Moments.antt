-- What a crash may have left at any moment since an earlier one.
use Rattle.std.specs.Prelude.{◌⊎◌, ℕ, ◌≤◌, List}
use Rattle.disk.specs.Disk.{DiskState, MayLeave}

-- Time goes on by one call: a crash at a moment within it leaves what one might have left before, or what one may leave now,
-- and nothing that it might have left is forgotten.
pub record Elapses (old new : DiskState) (past since : ℕ → List ℕ → Type 0) : Type 0 where
  pub later : old.moment ≤ new.moment
  pub nothing_else : (t : ℕ) (image : List ℕ) → t ≤ old.moment → since t image → past t image ⊎ MayLeave new.content image
  pub keeps : (t : ℕ) (image : List ℕ) → t ≤ old.moment → past t image → since t image

-- A crash at any moment since old leaves an image that has P, and one since an earlier moment leaves what one might have left
-- before, or an image that has P.
pub record LeavesOnly (old new : DiskState) (past since : ℕ → List ℕ → Type 0) (P : List ℕ → Type 0) : Type 0 where
  pub later : old.moment ≤ new.moment
  pub each : (image : List ℕ) → since old.moment image → P image
  pub before : (t : ℕ) (image : List ℕ) → t ≤ old.moment → since t image → past t image ⊎ P image
