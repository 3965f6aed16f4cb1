-- One more join of a chain that is filled.
use Rattle.std.proofs.Common.{◌≡◌, ◌<◌, ◌+◌, ℕ, List, [], ◌∷◌, ◌++◌, length, filter, map, take, get_or, true, None, Vec, refl, arith, ap, sym, ◌∙◌, subst}
use Rattle.std.specs.Global.{Global}
use Rattle.std.proofs.lemmas.List.{length_push, length-map, map-append}
use Rattle.ss_text.specs.Texts.{Row}
use Rattle.operator_law.specs.Bags.{SameBag, weigh}
use Rattle.join_delta.specs.Joined.{matches, joined}
use Rattle.join_delta.specs.Joins.{JoinValue}
use Rattle.plan_law.specs.Chain.{Joint, Sides, joint_rows, chain, Keeps}
use Rattle.plan_translate.specs.ChainStages.{joint_in, sides_in}
use Rattle.plan_translate.specs.ChainFills.{Fills, rows_in}
use Rattle.plan_translate.proofs.ChainStages.{joints_more}

all_rows : (xs : List Row) → filter (λ (x : Row). true) xs ≡ xs
all_rows [] = refl
all_rows (x ∷ xs) = ap (λ (l : List Row). x ∷ l) (all_rows xs)

chain_push : (js : List Joint) (xs : List Row) (yss : List (List Row)) (j : Joint) (ys : List Row) → length yss ≡ length js → chain (js ++ j ∷ []) xs (yss ++ ys ∷ []) ≡ joint_rows j (chain js xs yss) ys
chain_push [] xs [] j ys a = refl
chain_push [] xs (zs ∷ yss) j ys a = absurd (omega (arith, a))
chain_push (i ∷ js) xs [] j ys a = absurd (omega (arith, a))
chain_push (i ∷ js) xs (zs ∷ yss) j ys a = chain_push js (joint_rows i xs zs) yss j ys (omega (arith, a))

keeps_push : (js : List Joint) (xs : List Row) (yss : List (List Row)) (ks : List Sides) (j : Joint) (ys : List Row) (k : Sides) → length yss ≡ length js → length ks ≡ length js
    → Keeps js xs yss ks → SameBag (chain js xs yss) k.left → SameBag ys k.right → Keeps (js ++ j ∷ []) xs (yss ++ ys ∷ []) (ks ++ k ∷ [])
keeps_push [] xs [] [] j ys k a b keeps left right = (left, right, tt)
keeps_push [] xs (zs ∷ yss) ks j ys k a b keeps left right = absurd (omega (arith, a))
keeps_push [] xs [] (l ∷ ks) j ys k a b keeps left right = absurd (omega (arith, b))
keeps_push (i ∷ js) xs [] ks j ys k a b keeps left right = absurd keeps
keeps_push (i ∷ js) xs (zs ∷ yss) [] j ys k a b keeps left right = absurd keeps
keeps_push (i ∷ js) xs (zs ∷ yss) (l ∷ ks) j ys k a b keeps left right =
    (keeps.0, keeps.1, keeps_push js (joint_rows i xs zs) yss ks j ys k (omega (arith, a)) (omega (arith, b)) keeps.2 left right)

-- a join that is filled by what comes to it
module _ (js : List Joint) (xs : List Row) (yss : List (List Row)) (filled : List JoinValue) (out : List Row) (was : Fills js xs yss filled) (comes : out ≡ chain js xs yss)
    (j next : JoinValue) (ys : List Row) (is : next ≡ record { left_key = j.left_key; right_key = j.right_key; left = out; right = ys; waiting = None }) where
  fills_long : length (map sides_in filled) ≡ length js
  fills_long = length-map filled sides_in ∙ sym (length-map filled joint_in) ∙ ap length was.joints

  fills_push : Fills (js ++ joint_in j ∷ []) xs (yss ++ ys ∷ []) (filled ++ next ∷ [])
  fills_push = record {
    each = omega (arith, length_push yss ys, length_push js (joint_in j), was.each);
    joints = map-append joint_in filled (next ∷ []) ∙ ap (λ (l : List Joint). l ++ joint_in next ∷ []) was.joints ∙ ap (λ (k : JoinValue). js ++ joint_in k ∷ []) is;
    keeps = subst (Keeps (js ++ joint_in j ∷ []) xs (yss ++ ys ∷ [])) (sym (map-append sides_in filled (next ∷ []))) (
        keeps_push js xs yss (map sides_in filled) (joint_in j) ys (sides_in next) was.each fills_long was.keeps
        (λ f. ap (λ (l : List Row). weigh f l) (sym comes ∙ sym (ap (λ (k : JoinValue). k.left) is)))
        (λ f. ap (λ (l : List Row). weigh f l) (sym (ap (λ (k : JoinValue). k.right) is))));
  }

  comes_push : (out' : List Row) → out' ≡ joined (matches j.left_key j.right_key) out ys → out' ≡ chain (js ++ joint_in j ∷ []) xs (yss ++ ys ∷ [])
  comes_push out' is_joined =
      is_joined ∙ sym (all_rows (joined (matches j.left_key j.right_key) out ys)) ∙ ap (λ (l : List Row). joint_rows (joint_in j) l ys) comes ∙ sym (chain_push js xs yss (joint_in j) ys was.each)

-- as the loop says it
module _ (joins : List JoinValue) (n : ℕ) (j : JoinValue) (lt : n < length joins) (at : j ≡ get_or joins n j) (xs : List Row) (olds : List (Vec Row Global)) (right : Vec Row Global) (filled filled' : List JoinValue) (next : JoinValue) (out : List Row) (m : ℕ) (one : m ≡ n + 1)
    (push : filled' ≡ filled ++ next ∷ []) (is : next ≡ record { left_key = j.left_key; right_key = j.right_key; left = out; right = right.items; waiting = None })
    (was : Fills (map joint_in (take n joins)) xs (rows_in olds) filled) (comes : out ≡ chain (map joint_in (take n joins)) xs (rows_in olds)) where
  joints_are : map joint_in (take m joins) ≡ map joint_in (take n joins) ++ joint_in j ∷ []
  joints_are = ap (λ (k : ℕ). map joint_in (take k joins)) one ∙ joints_more joins n j lt at

  rows_are : rows_in (olds ++ right ∷ []) ≡ rows_in olds ++ right.items ∷ []
  rows_are = map-append (λ (v : Vec Row Global). v.items) olds (right ∷ [])

  pub fills_more : Fills (map joint_in (take m joins)) xs (rows_in (olds ++ right ∷ [])) filled'
  fills_more =
      subst (λ (l : List JoinValue). Fills (map joint_in (take m joins)) xs (rows_in (olds ++ right ∷ [])) l) (sym push)
      (subst (λ (yss : List (List Row)). Fills (map joint_in (take m joins)) xs yss (filled ++ next ∷ [])) (sym rows_are)
      (subst (λ (js : List Joint). Fills js xs (rows_in olds ++ right.items ∷ []) (filled ++ next ∷ [])) (sym joints_are)
      (fills_push (map joint_in (take n joins)) xs (rows_in olds) filled out was comes j next right.items is)))

  pub comes_more : (out' : List Row) → out' ≡ joined (matches j.left_key j.right_key) out right.items → out' ≡ chain (map joint_in (take m joins)) xs (rows_in (olds ++ right ∷ []))
  comes_more out' gives =
      comes_push (map joint_in (take n joins)) xs (rows_in olds) filled out was comes j next right.items is out' gives
      ∙ ap (λ (js : List Joint). chain js xs (rows_in olds ++ right.items ∷ [])) (sym joints_are)
      ∙ ap (λ (yss : List (List Row)). chain (map joint_in (take m joins)) xs yss) (sym rows_are)
