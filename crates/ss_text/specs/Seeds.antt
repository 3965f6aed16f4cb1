-- Where hashes begin.
use Rattle.std.specs.Prelude.{ℕ, fold}
use Rattle.std.specs.Hash as fed
use Rattle.std.specs.Hash.FoldHasher as folding
use Rattle.std.specs.declared.hash.FoldHasher.{FoldHasher}
use Rattle.ss_text.specs.declared.seed.Seed.{Seed}

-- the hasher that a seed hands out
abbrev pub start_of : Seed → FoldHasher
start_of seed = seed.start

-- the one of a number
abbrev pub start_by : ℕ → FoldHasher
start_by number = fold folding.write folding.initial (fed.u64 number)
