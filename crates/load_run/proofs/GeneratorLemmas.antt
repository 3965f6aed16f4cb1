-- A place is no less than its last digit.
use Rattle.std.proofs.Common.{◌%◌, ◌≤◌, ℕ}
use Rattle.std.proofs.Math.Nat.{mod-le}

pub last_below : (i : ℕ) → i % 10 ≤ i
last_below i = mod-le i 10
