-- Tests of rows, and some of their cells.
use Rattle.std.specs.Prelude.{ℕ, Bool, not, cond, List, [], map, filter, slice_index_or}
use Rattle.ss_text.specs.Texts.{Row, text_eq}
use Rattle.operator_law.specs.declared.delta.Signed.{Signed}
use Rattle.operator_law.specs.Bags.{signed}

-- the row's two cells are equal, or else differ
abbrev pub passes : ℕ → Bool → ℕ → Row → Bool
passes left op_equal right row =
    let same = text_eq (slice_index_or row left []) (slice_index_or row right []) in
    cond op_equal same (not same)

-- the signed rows that pass
abbrev pub filtered : (Row → Bool) → List Signed → List Signed
filtered p ms = filter (λ m. p m.row) ms

-- the cells at some places
abbrev pub cells_at : List ℕ → Row → Row
cells_at places row = map (λ k. slice_index_or row k []) places

-- and those of signed rows
abbrev pub projected : List ℕ → List Signed → List Signed
projected places ms = map (λ m. signed m.up (cells_at places m.row)) ms
