-- One row that comes or goes, and one move more.
use Rattle.std.proofs.Common.{◌≡◌, ◌<◌, ◌+◌, ℕ, List, [], ◌∷◌, ◌++◌, Some, true, false, sym, ap, subst, arith, get_or, length, take}
use Rattle.std.specs.List.{remove, position}
use Rattle.std.proofs.lemmas.List.{take_more}
use Rattle.std.proofs.lemmas.List.Quantifiers.{position-Some}
use Rattle.ss_text.specs.Texts.{Row, row_eq}
use Rattle.operator_law.specs.declared.delta.Signed.{Signed}
use Rattle.operator_law.specs.Bags.{MovesBag}
use Rattle.operator_law.proofs.Weights.{weigh-push, weigh-remove}
use Rattle.operator_law.proofs.Counts.{row_eq-Decides}
use Rattle.operator_law.proofs.SignedRows.{moves_on}

pub one_comes : (xs : List Row) (m : Signed) → m.up ≡ true → MovesBag xs (m ∷ []) (xs ++ m.row ∷ [])
one_comes xs m e f = rw e (omega (arith, weigh-push f xs m.row))

pub one_goes : (xs : List Row) (m : Signed) (i : ℕ) → m.up ≡ false → position (row_eq m.row) xs ≡ Some i → MovesBag xs (m ∷ []) (remove xs i)
one_goes xs m i e at f =
    let p = position-Some (row_eq m.row) xs i m.row at in
    let same : m.row ≡ get_or xs i m.row = (row_eq-Decides m.row (get_or xs i m.row)).0 p.1 in
    rw e (omega (arith, weigh-remove f xs i m.row p.0, ap f same))

pub one_more : (xs ys zs : List Row) (ms : List Signed) (i : ℕ) (m : Signed) → i < length ms → get_or ms i m ≡ m → MovesBag xs (take i ms) ys → MovesBag ys (m ∷ []) zs → MovesBag xs (take (i + 1) ms) zs
one_more xs ys zs ms i m lt e h k = subst (λ ns. MovesBag xs ns zs) (sym (take_more ms i m lt)) (rw e (moves_on xs ys zs (take i ms) (m ∷ []) h k))
