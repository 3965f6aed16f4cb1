-- A journal, and the reader of its entries, as contracts see them.
use Rattle.std.specs.Prelude.{ℕ, Bool, List}

-- a journal: the place of the byte 0 at its end, and whether it is shut
pub record JournalState : Type 0 where
  pub end : ℕ
  pub is_shut : Bool

-- a reader: the size of the disk, the place of the next byte, and the bytes that were read from there on
pub record WindowState : Type 0 where
  pub size : ℕ
  pub place : ℕ
  pub ahead : List ℕ
