-- What is known of a disk that tells nothing.
use Rattle.std.proofs.Common.{◌≡◌, ◌≤◌, ℕ, List, length, Option, None, Some, sym, subst}
use Rattle.std.specs.Prelude.{⊤}
use Rattle.disk.specs.Disk.{Content, DiskState}

abbrev pub untold : ℕ → DiskState
untold faults = record { content = None; faults = faults; moment = 0 }

-- anything might have been left
abbrev pub AnyLeft : ℕ → List ℕ → Type 0
AnyLeft t image = ⊤

abbrev tells : Option Content → Type 0
tells None = ⊥
tells (Some held) = ⊤

pub not_told : (held : Content) → None ≡ Some held → held.stable ≤ length held.bytes
not_told held told = absurd (subst tells (sym told) tt)
