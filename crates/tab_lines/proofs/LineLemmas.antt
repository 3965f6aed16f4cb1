-- The lines of a text, one by one.
use Rattle.std.proofs.Common.{◌≡◌, ◌≢◌, ℕ, Bool, true, false, ◌||◌, List, [], ◌∷◌, ◌++◌, refl, ap, ◌∙◌, ◌==◌}
use Rattle.tab_lines.specs.Parts.{has}
use Rattle.tab_lines.specs.Lines.{has_feed, last_line, lines_of_parts, lines_of, without_last, whole_lines}
use Rattle.tab_lines.proofs.PartLemmas.{parts_first, one_part, split_some}

pub has_append : (b : ℕ) (xs ys : List ℕ) → has b (xs ++ ys) ≡ (has b xs || has b ys)
has_append b [] ys = refl
has_append b (x ∷ xs) ys = rw (has_append b xs ys) (or_assoc (x == b) (has b xs) (has b ys))
  where
    or_assoc : (p q r : Bool) → (p || (q || r)) ≡ ((p || q) || r)
    or_assoc true q r = refl
    or_assoc false q r = refl

pub none_in_both : (b : ℕ) (xs ys : List ℕ) → has b xs ≡ false → has b ys ≡ false → has b (xs ++ ys) ≡ false
none_in_both b xs ys p q = has_append b xs ys ∙ rw (p, q) refl

-- what stands before the first LF is the first line
pub lines_first : (line rest : List ℕ) → has_feed line ≡ false → lines_of (line ++ 10 ∷ rest) ≡ line ∷ lines_of rest
lines_first line rest clear = ap lines_of_parts (parts_first 10 line rest clear) ∙ split_some (λ parts. lines_of_parts (line ∷ parts) ≡ line ∷ lines_of_parts parts) 10 rest (λ part parts. refl)

pub whole_first : (line rest : List ℕ) → has_feed line ≡ false → whole_lines (line ++ 10 ∷ rest) ≡ line ∷ whole_lines rest
whole_first line rest clear = ap without_last (parts_first 10 line rest clear) ∙ split_some (λ parts. without_last (line ∷ parts) ≡ line ∷ without_last parts) 10 rest (λ part parts. refl)

-- a text without LFs is a line where it is not empty, and no whole line
pub lines_last : (line : List ℕ) → has_feed line ≡ false → lines_of line ≡ last_line line
lines_last line clear = ap lines_of_parts (one_part 10 line clear)

pub some_line : (line : List ℕ) → line ≢ [] → last_line line ≡ line ∷ []
some_line [] some = absurd (some refl)
some_line (b ∷ bs) some = refl

pub whole_none : (line : List ℕ) → has_feed line ≡ false → whole_lines line ≡ []
whole_none line clear = ap without_last (one_part 10 line clear)
