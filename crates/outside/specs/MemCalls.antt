-- What a call on folders in memory does beside its answer.
use Rattle.std.specs.Prelude.{◌≡◌, ◌≤◌, ◌↔◌, true, Result, OnErr, IsErrOf}
use Rattle.outside.specs.Counts.{Rose}
use Rattle.outside.specs.Calls.{faults_of, next_fails, CountedUnlessNoMemory}
use Rattle.outside.specs.MemTree.{MemFoldersState}
use Rattle.outside.specs.Whole.{told}
use Rattle.outside.specs.States.{StoreState}
use Rattle.outside.specs.declared.fault.StoreFault.{StoreFault}
use Rattle.outside.specs.declared.fault.StoreFault.TheVariants as fault

-- what is known of folders in memory
abbrev pub store_state : MemFoldersState → StoreState
store_state s = record { tree = told s.tree; writes = s.writes; read_faults = faults_of s.reads; write_faults = faults_of s.changes }

-- it fails as the numbers of the reading calls tell, is counted among these, and changes nothing
pub record NumberedRead {A : Type 0} (result : Result A StoreFault) (old new : MemFoldersState) : Type 0 where
  pub fails : IsErrOf result fault.Failed ↔ (next_fails old.reads ≡ true)
  pub failed : IsErrOf result fault.Failed → Rose (faults_of old.reads) (faults_of new.reads)
  pub steady : faults_of old.reads ≤ faults_of new.reads
  pub numbered : CountedUnlessNoMemory result old.reads new.reads
  pub tree : told new.tree ≡ told old.tree
  pub writes : new.writes ≡ old.writes
  pub changes : new.changes ≡ old.changes

-- it fails only as the numbers of the changing calls tell, is counted among these, and without memory changes nothing
pub record NumberedChange {A : Type 0} (result : Result A StoreFault) (old new : MemFoldersState) : Type 0 where
  pub fails : IsErrOf result fault.Failed → next_fails old.changes ≡ true
  pub failed : IsErrOf result fault.Failed → Rose (faults_of old.changes) (faults_of new.changes)
  pub steady : faults_of old.changes ≤ faults_of new.changes
  pub numbered : CountedUnlessNoMemory result old.changes new.changes
  pub uncounted : OnErr result (new.writes ≡ old.writes)
  pub no_memory : IsErrOf result fault.NoMemory → told new.tree ≡ told old.tree
  pub no_fault : IsErrOf result fault.NoMemory → faults_of new.changes ≡ faults_of old.changes
  pub reads : new.reads ≡ old.reads
