-- The names of the tests.
use Rattle.std.proofs.Common.{◌≡◌, List, [], ◌∷◌, refl, ap, sym, ◌∙◌, map, subst}
use Rattle.ss_text.specs.Texts.{Row}
use Rattle.operator_law.specs.Bags.{weigh, is}
use Rattle.operator_law.proofs.Weights.{weigh-map}
use Rattle.unite_op.specs.declared.named.Named.{Named}
use Rattle.unite_op.specs.NamedThings.{OneBears}

x_and_y : List Row
x_and_y = ((120 ∷ []) ∷ []) ∷ ((121 ∷ []) ∷ []) ∷ []

y_once : weigh (is ((121 ∷ []) ∷ [])) x_and_y ≡ 1
unfolding x_and_y
y_once = refl

-- the second of the two inputs bears the change's names
pub second_bears : {T : Type 0} (names : Row) (inputs : List (Named T)) → names ≡ (121 ∷ []) ∷ [] → map (λ n. n.names) inputs ≡ ((120 ∷ []) ∷ []) ∷ ((121 ∷ []) ∷ []) ∷ [] → OneBears names inputs
unfolding x_and_y
second_bears names inputs same are =
    sym (weigh-map (is names) (λ n. n.names) inputs)
    ∙ ap (weigh (is names)) are
    ∙ subst (λ (n : Row). weigh (is n) x_and_y ≡ 1) (sym same) y_once
