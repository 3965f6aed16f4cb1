-- Rows behind names that are behind others.
use Rattle.std.proofs.Common.{◌≡◌, List, [], ◌∷◌, ◌++◌, refl, ap, ◌∙◌, append_assoc}
use Rattle.ss_text.specs.Texts.{Row}
use Rattle.unite_op.specs.NamedThings.{rows_behind}

pub behind_both : (names more : Row) (rows : List Row) → rows_behind (names ++ more) rows ≡ rows_behind names (rows_behind more rows)
behind_both names more [] = refl
behind_both names more (row ∷ rows) =
    ap (λ (r : Row). r ∷ rows_behind (names ++ more) rows) (append_assoc names more row)
    ∙ ap (λ (rs : List Row). (names ++ (more ++ row)) ∷ rs) (behind_both names more rows)
