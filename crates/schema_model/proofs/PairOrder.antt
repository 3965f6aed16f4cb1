-- The order of the names of relations.
use Rattle.std.proofs.Common.{◌≡◌, ◌∙◌, refl, ap}
use Rattle.std.specs.declared.cmp.Ordering.{Ordering}
use Rattle.std.specs.declared.cmp.Ordering.TheVariants.{Less, Equal, Greater}
use Rattle.std.specs.Ordering.{ordering_then}
use Rattle.std.specs.FinMap.{IsAntisymmetric}
use Rattle.ss_text.specs.Texts.{Text, text_cmp}
use Rattle.ss_text.proofs.KeyLemmas.{text_order}
use Rattle.schema_model.specs.Pairs.{pair, pair_cmp}

both_equal : (o p : Ordering) → ordering_then o p ≡ Equal → (o ≡ Equal) × (p ≡ Equal)
both_equal Less p h = absurd (cc)
both_equal Equal p h = (refl, h)
both_equal Greater p h = absurd (cc)

-- two that tie are the same
pub pair_same : IsAntisymmetric pair_cmp
pair_same p q h =
    let parts = both_equal (text_cmp p.db q.db) (text_cmp p.rel q.rel) h in
    ap (λ (db : Text). pair db p.rel) (text_order.same p.db q.db parts.0) ∙ ap (pair q.db) (text_order.same p.rel q.rel parts.1)
