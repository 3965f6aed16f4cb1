-- What is known of a store and of a sink at a moment.
use Rattle.std.specs.Prelude.{ℕ, List, Option}
use Rattle.outside.specs.Tree.{Tree}

-- a store: its folders and files, where it tells them, how many calls failed, and how many files were written or removed
pub record StoreState : Type 0 where
  pub tree : Option Tree
  pub writes : ℕ
  pub read_faults : ℕ
  pub write_faults : ℕ

-- a sink: the bytes that it holds, where it tells them, and how many calls failed
pub record SinkState : Type 0 where
  pub held : Option (List ℕ)
  pub faults : ℕ
