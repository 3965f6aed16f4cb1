-- The number that equal cells share.
use Rattle.std.specs.Prelude.{ℕ, List, Option, fold}
use Rattle.std.specs.Hash as fed
use Rattle.std.specs.Hash.FoldHasher as folding
use Rattle.std.specs.declared.hash.FoldHasher.{FoldHasher}
use Rattle.ss_text.specs.Texts.{Text}
use Rattle.ss_text.specs.Seeds.{start_of}
use Rattle.ss_text.specs.declared.seed.Seed.{Seed}

-- the hasher's state after one more cell
abbrev pub write_cell : FoldHasher → Option Text → FoldHasher
write_cell state cell = fold folding.write state (fed.option (fed.slice fed.u8) cell)

-- the number that these cells share, by a seed
abbrev pub mark_of : Seed → List (Option Text) → ℕ
mark_of seed cells = folding.finish (fold write_cell (start_of seed) cells)
