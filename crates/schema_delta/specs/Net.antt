-- Moves in net.
use Rattle.std.specs.Prelude.{ℕ, ◌+◌, ◌≡◌, Bool, List}
use Rattle.std.specs.List.{AllByRecursion}
use Rattle.ss_text.specs.Texts.{Row}
use Rattle.operator_law.specs.declared.delta.Signed.{Signed}
use Rattle.operator_law.specs.Bags.{come, go}

-- the same moves in net
abbrev pub SameNet : List Signed → List Signed → Type 0
SameNet ms ns = (f : Row → ℕ) → come f ms + go f ns ≡ come f ns + go f ms

-- no row moves both ways: a test of the rows tells those that come from those that go
pub record IsNet (ms : List Signed) : Type 0 where
  pub comes : Row → Bool
  pub tells : AllByRecursion (λ (m : Signed). comes m.row ≡ m.up) ms
