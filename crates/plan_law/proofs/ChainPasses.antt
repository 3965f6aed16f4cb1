-- Conditions that are tested on the way.
use Rattle.std.proofs.Common.{◌≡◌, ℕ, List, [], ◌∷◌, ◌++◌, Bool, true, false, cond, refl, ap, sym, ◌∙◌, append_assoc, append-nil}
use Rattle.ss_text.specs.Texts.{Row}
use Rattle.plan_law.specs.Chain.{Joint, joint_rows, chain, untested, IsLate}
use Rattle.operator_law.specs.Bags.{weigh}
use Rattle.join_delta.specs.Joined.{joined}
use Rattle.operator_law.proofs.Weights.{weigh-same, weigh-filter}
use Rattle.plan_law.proofs.Weights.{weigh-zero, weigh-joined}

module _ (g : Row → ℕ) where
  -- a chain from one row on
  abbrev from_row : List Joint → List (List Row) → Row → ℕ
  from_row [] yss x = g x
  from_row (j ∷ js) [] x = g x
  from_row (j ∷ js) (ys ∷ yss) x = weigh (λ y. cond (j.keys x y) (cond (j.passes (x ++ y)) (from_row js yss (x ++ y)) 0) 0) ys

  chain_weighs : (js : List Joint) (yss : List (List Row)) (xs : List Row) → weigh g (chain js xs yss) ≡ weigh (from_row js yss) xs
  chain_weighs [] yss xs = refl
  chain_weighs (j ∷ js) [] xs = refl
  chain_weighs (j ∷ js) (ys ∷ yss) xs =
      chain_weighs js yss (joint_rows j xs ys)
      ∙ weigh-filter (from_row js yss) j.passes (joined j.keys xs ys)
      ∙ weigh-joined j.keys (λ r. cond (j.passes r) (from_row js yss r) 0) xs ys

  -- from a row that weighs nothing, however it goes on
  none_from : (js : List Joint) (yss : List (List Row)) (x : Row) → ((w : Row) → g (x ++ w) ≡ 0) → g x ≡ 0 → from_row js yss x ≡ 0
  none_from [] yss x h e = e
  none_from (j ∷ js) [] x h e = e
  none_from (j ∷ js) (ys ∷ yss) x h e =
      weigh-zero _ (λ y. zero_conds (j.keys x y) (j.passes (x ++ y)) (from_row js yss (x ++ y)) (none_from js yss (x ++ y) (λ w. ap g (append_assoc x y w) ∙ h (y ++ w)) (h y))) ys
    where
      zero_conds : (a b : Bool) (n : ℕ) → n ≡ 0 → cond a (cond b n 0) 0 ≡ 0
      zero_conds true true n e = e
      zero_conds true false n e = refl
      zero_conds false b n e = refl

  same_from : (js : List Joint) (yss : List (List Row)) (x : Row) → IsLate g js → from_row js yss x ≡ from_row (untested js) yss x
  same_from [] yss x late = refl
  same_from (j ∷ js) [] x late = refl
  same_from (j ∷ js) (ys ∷ yss) x late =
      weigh-same _ _ (λ y. ap (λ n. cond (j.keys x y) n 0) (one y (j.passes (x ++ y)) refl ∙ same_from js yss (x ++ y) late.1)) ys
    where
      plain : (y : Row) → g ((x ++ y) ++ []) ≡ 0 → g (x ++ y) ≡ 0
      plain y e = ap g (sym (append-nil (x ++ y))) ∙ e

      one : (y : Row) (b : Bool) → j.passes (x ++ y) ≡ b → cond b (from_row js yss (x ++ y)) 0 ≡ from_row js yss (x ++ y)
      one y true e = refl
      one y false e = sym (none_from js yss (x ++ y) (λ w. late.0 (x ++ y) w e) (plain y (late.0 (x ++ y) [] e)))

  -- so what is tested at the end may be tested on the way
  pub tested_early : (js : List Joint) (yss : List (List Row)) (xs : List Row) → IsLate g js → weigh g (chain js xs yss) ≡ weigh g (chain (untested js) xs yss)
  tested_early js yss xs late =
      chain_weighs js yss xs ∙ weigh-same _ _ (λ x. same_from js yss x late) xs ∙ sym (chain_weighs (untested js) yss xs)
