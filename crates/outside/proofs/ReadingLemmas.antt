-- Reading after reading.
use Rattle.std.proofs.Common.{◌≤◌, ◌∙◌, ℕ, refl, arith}
use Rattle.outside.specs.States.{StoreState}
use Rattle.outside.specs.Reading.{OnlyRead}

pub only_read_nothing : (s : StoreState) → OnlyRead s s
only_read_nothing s = record { tree = refl; writes = refl; write_faults = refl; steady = same s.read_faults }
  where
    same : (n : ℕ) → n ≤ n
    same n = omega arith

pub only_read_then : (a b c : StoreState) → OnlyRead a b → OnlyRead b c → OnlyRead a c
only_read_then a b c h k = record { tree = k.tree ∙ h.tree; writes = k.writes ∙ h.writes; write_faults = k.write_faults ∙ h.write_faults; steady = le_then a.read_faults b.read_faults c.read_faults h.steady k.steady }
  where
    le_then : (n m k : ℕ) → n ≤ m → m ≤ k → n ≤ k
    le_then n m k h i = omega arith
