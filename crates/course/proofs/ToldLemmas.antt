-- What is known of a store that tells what it holds.
use Rattle.std.proofs.Common.{◌≡◌, ℕ, Option, None, Some, ap}
use Rattle.outside.specs.Tree.{Tree}
use Rattle.outside.specs.Effects.{World, Stored, contents, stored_of}

-- a store that tells, and its count of writes
pub told_tree : (o : Option Tree) (n : ℕ) (s : Stored) → stored_of o n ≡ Some s → (o ≡ Some s.tree) × (n ≡ s.writes)
told_tree None n s e = absurd (cc)
told_tree (Some t) n s e = let same : record { tree = t; writes = n } ≡ s = cc in (ap (λ (x : Stored). Some x.tree) same, ap (λ (x : Stored). x.writes) same)

pub contents_told : (w : World) (t : Tree) → w.store.tree ≡ Some t → contents w ≡ record { stored = Some (record { tree = t; writes = w.store.writes }); held = w.output.held }
unfolding contents
contents_told w t e = ap (λ (o : Option Tree). record { stored = stored_of o w.store.writes; held = w.output.held }) e
