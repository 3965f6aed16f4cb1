-- The whole lines of some first bytes are first lines of all.
use Rattle.std.proofs.Common.{◌≡◌, ℕ, ◌==◌, Bool, true, false, ◌||◌, List, [], ◌∷◌, ◌++◌, refl, sym, ap, ◌∙◌, subst, append_assoc, append-nil}
use Rattle.std.proofs.lemmas.Bool.{eqb-true}
use Rattle.tab_lines.specs.Lines.{has_feed, lines_of, whole_lines}
use Rattle.tab_lines.specs.Parts.{has}
use Rattle.tab_lines.proofs.LineLemmas.{has_append, lines_first, whole_first, whole_none}

-- the whole lines of some first bytes are first lines of all
has_last : (line : List ℕ) (b : ℕ) → has_feed line ≡ false → (b == 10) ≡ false → has_feed (line ++ b ∷ []) ≡ false
has_last line b none other = has_append 10 line (b ∷ []) ∙ ap (λ x. x || (has 10 (b ∷ []))) none ∙ ap (λ x. x || false) other

first_lines : (line xs left : List ℕ) → has_feed line ≡ false → (more : List (List ℕ)) × (lines_of (line ++ xs ++ left) ≡ whole_lines (line ++ xs) ++ more)
first_lines line [] left none =
    (lines_of (line ++ [] ++ left), ap (λ ls. ls ++ lines_of (line ++ [] ++ left)) (sym (ap whole_lines (append-nil line) ∙ whole_none line none)))
first_lines line (x ∷ xs) left none = by_byte (x == 10) refl (first_lines [] xs left refl) (λ none. first_lines (line ++ x ∷ []) xs left none)
  where
    by_byte : (b : Bool) → (x == 10) ≡ b → (more : List (List ℕ)) × (lines_of (xs ++ left) ≡ whole_lines xs ++ more)
        → (has_feed (line ++ x ∷ []) ≡ false → (more : List (List ℕ)) × (lines_of ((line ++ x ∷ []) ++ xs ++ left) ≡ whole_lines ((line ++ x ∷ []) ++ xs) ++ more))
        → (more : List (List ℕ)) × (lines_of (line ++ (x ∷ xs) ++ left) ≡ whole_lines (line ++ x ∷ xs) ++ more)
    by_byte true e rest later =
        let is : x ≡ 10 = eqb-true x 10 e in (
          rest.0,
          subst (λ (y : ℕ). lines_of (line ++ (y ∷ xs) ++ left) ≡ whole_lines (line ++ y ∷ xs) ++ rest.0) (sym is)
              (ap lines_of (append_assoc line (10 ∷ xs) left) ∙ lines_first line (xs ++ left) none ∙ ap (λ ls. line ∷ ls) rest.1 ∙ ap (λ ls. ls ++ rest.0) (sym (whole_first line xs none))),
        )
    by_byte false e rest later =
        let all = later (has_last line x none e) in
        (all.0, subst (λ (ys : List ℕ). lines_of (ys ++ left) ≡ whole_lines ys ++ all.0) (append_assoc line (x ∷ []) xs) all.1)

pub taken_lines : (bytes taken left : List ℕ) → bytes ≡ taken ++ left → (more : List (List ℕ)) × (lines_of bytes ≡ whole_lines taken ++ more)
taken_lines bytes taken left is = let all = first_lines [] taken left refl in (all.0, ap lines_of is ∙ all.1)
