-- What a call that only reads leaves as it was.
use Rattle.std.specs.Prelude.{◌≡◌, ◌≤◌}
use Rattle.outside.specs.States.{StoreState}

-- folders, files and the counts of writing stay, and the count of failed reads does not fall
pub record OnlyRead (old new : StoreState) : Type 0 where
  pub tree : new.tree ≡ old.tree
  pub writes : new.writes ≡ old.writes
  pub write_faults : new.write_faults ≡ old.write_faults
  pub steady : old.read_faults ≤ new.read_faults
