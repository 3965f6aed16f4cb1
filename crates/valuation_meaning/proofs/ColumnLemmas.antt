-- The place of one of distinct attributes.
use Rattle.std.proofs.Common.{◌≡◌, ◌∙◌, ◌+◌, ℕ, zero, suc, [], ◌∷◌, false, Some, sym, ap, arith}
use Rattle.std.specs.Prelude.{position, slice_get, bytes_eq}
use Rattle.std.specs.List.{position_from, AllByRecursion, IsDistinct}
use Rattle.std.proofs.lemmas.Iterator.Adapters.{position_from-zero}
use Rattle.ss_text.specs.Texts.{Text, Row, text_eq}
use Rattle.ss_text.proofs.KeyLemmas.{text_order, equal_itself}
use Rattle.ss_text.proofs.PairLemmas.{turned}

-- the one at a place is not what none is
differs_at : (x name : Text) (names : Row) (k : ℕ) → AllByRecursion (λ y. bytes_eq x y ≡ false) names → slice_get names k ≡ Some name → text_eq name x ≡ false
differs_at x name [] k none is = absurd (cc is)
differs_at x name (y ∷ names) zero none is = let same : y ≡ name = cc is in turned text_order name x ∙ ap (text_eq x) (sym same) ∙ none.0
differs_at x name (y ∷ names) (suc k) none is = differs_at x name names k none.1 is

stands_from : (names : Row) (name : Text) (k n : ℕ) → IsDistinct bytes_eq names → slice_get names k ≡ Some name → position_from (text_eq name) n names ≡ Some (n + k)
unfolding IsDistinct
stands_from [] name k n apart is = absurd (cc is)
stands_from (x ∷ names) name zero n apart is =
    let same : x ≡ name = cc is in
    let first : n ≡ n + 0 = omega arith in
    rw (ap (text_eq name) same ∙ equal_itself text_order name) (ap Some first)
stands_from (x ∷ names) name (suc k) n apart is =
    let next : (n + 1) + k ≡ n + suc k = omega arith in
    rw (differs_at x name names k apart.0 is) (stands_from names name k (n + 1) apart.1 is ∙ ap Some next)

-- an attribute is found first at its own place
pub stands_at : (names : Row) (name : Text) (k : ℕ) → IsDistinct bytes_eq names → slice_get names k ≡ Some name → position (text_eq name) names ≡ Some k
stands_at names name k apart is =
    let first : 0 + k ≡ k = omega arith in
    position_from-zero (text_eq name) names ∙ stands_from names name k 0 apart is ∙ ap Some first
