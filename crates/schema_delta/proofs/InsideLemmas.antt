-- How attributes move.
use Rattle.std.proofs.Common.{◌≡◌, ℕ, zero, suc, ◌+◌, ◌<◌, [], ◌∷◌, ◌++◌, true, false, arith, ap, length, get_or}
use Rattle.std.specs.Prelude.{remove, slice_set}
use Rattle.ss_text.specs.Texts.{Text, Row}
use Rattle.schema_delta.specs.Flat.{names_of}
use Rattle.operator_law.specs.Bags.{weigh, MovesBag, signed}
use Rattle.operator_law.proofs.Weights.{weigh-map, weigh-remove, weigh-push}

pub attribute_comes : (ns : Row) (name : Text) → MovesBag (names_of ns) (signed true (name ∷ []) ∷ []) (names_of (ns ++ name ∷ []))
attribute_comes ns name f =
    omega (arith, weigh-map f (λ a. a ∷ []) ns, weigh-map f (λ a. a ∷ []) (ns ++ name ∷ []), weigh-push (λ a. f (a ∷ [])) ns name)

pub attribute_goes : (ns : Row) (p : ℕ) (a : Text) → p < length ns → a ≡ get_or ns p a → MovesBag (names_of ns) (signed false (a ∷ []) ∷ []) (names_of (remove ns p))
attribute_goes ns p a h at f =
    omega (arith, weigh-map f (λ a. a ∷ []) ns, weigh-map f (λ a. a ∷ []) (remove ns p), weigh-remove (λ a. f (a ∷ [])) ns p a h, ap (λ b. f (b ∷ [])) at)

weigh-set : (f : Text → ℕ) (ns : Row) (p : ℕ) (to d : Text) → p < length ns → weigh f (slice_set ns p to) + f (get_or ns p d) ≡ weigh f ns + f to
weigh-set f [] p to d h = absurd (omega (arith, h))
weigh-set f (x ∷ ns) zero to d h = omega arith
weigh-set f (x ∷ ns) (suc p) to d h = omega (arith, weigh-set f ns p to d (omega (arith, h)))

pub attribute_renamed : (ns : Row) (p : ℕ) (a to : Text) → p < length ns → a ≡ get_or ns p a → MovesBag (names_of ns) (signed false (a ∷ []) ∷ signed true (to ∷ []) ∷ []) (names_of (slice_set ns p to))
attribute_renamed ns p a to h at f =
    omega (arith, weigh-map f (λ a. a ∷ []) ns, weigh-map f (λ a. a ∷ []) (slice_set ns p to), weigh-set (λ a. f (a ∷ [])) ns p to a h, ap (λ b. f (b ∷ [])) at)
