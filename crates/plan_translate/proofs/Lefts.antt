-- Joins that keep their left sides alone, beside those that keep both.
use Rattle.std.proofs.Common.{◌≡◌, List, [], ◌∷◌, Bool, true, false, cond, length, map, get_or, drop, refl, ap, sym, ◌∙◌, subst, arith}
use Rattle.std.specs.List.{AllZip}
use Rattle.std.proofs.lemmas.List.{length-map}
use Rattle.ss_text.specs.Texts.{Row}
use Rattle.operator_law.specs.declared.delta.Signed.{Signed}
use Rattle.operator_law.specs.Bags.{SameBag, MovesBag}
use Rattle.join_delta.specs.Joins.{JoinValue}
use Rattle.plan_law.specs.Chain.{Joint, Sides, SideMoves, joint_rows, Keeps}
use Rattle.plan_translate.specs.ChainStages.{joint_in, sides_in, side_moves}
use Rattle.plan_translate.specs.Read.{left_side, left_moves}
use Rattle.plan_translate.specs.Moves.{MovesChain}
use Rattle.plan_translate.specs.Sides.{LikeJoin, CanMove, AllMoved}
use Rattle.plan_translate.proofs.Each.{Pair}
use Rattle.plan_translate.proofs.Stages.{can_move, keeps_on, like_keeps}

-- what comes to the left side of each join, and no right rows
abbrev pub KeepsLeft : List Joint → List Row → List (List Row) → List JoinValue → Type 0
KeepsLeft [] xs yss [] = Unit {0}
KeepsLeft [] xs yss (i ∷ joins) = ⊥
KeepsLeft (j ∷ js) xs [] joins = ⊥
KeepsLeft (j ∷ js) xs (ys ∷ yss) [] = ⊥
KeepsLeft (j ∷ js) xs (ys ∷ yss) (i ∷ joins) = (SameBag xs i.left) × (i.right ≡ []) × KeepsLeft js (joint_rows j xs ys) yss joins

-- as sides that are kept so
abbrev pub KeptBy : Bool → List Joint → List Row → List (List Row) → List JoinValue → Type 0
KeptBy b js xs yss joins = (ks : List Sides) × Keeps js xs yss ks × (map sides_in joins ≡ cond b (map left_side ks) ks)

to_left : (js : List Joint) (xs : List Row) (yss : List (List Row)) (joins : List JoinValue) (ks : List Sides) → length joins ≡ length js → Keeps js xs yss ks → map sides_in joins ≡ map left_side ks → KeepsLeft js xs yss joins
to_left [] xs yss [] ks long keeps e = tt
to_left [] xs yss (i ∷ joins) ks long keeps e = absurd (omega (arith, long))
to_left (j ∷ js) xs [] joins ks long keeps e = absurd keeps
to_left (j ∷ js) xs (ys ∷ yss) joins [] long keeps e = absurd keeps
to_left (j ∷ js) xs (ys ∷ yss) [] (k ∷ ks) long keeps e = absurd (omega (arith, long))
to_left (j ∷ js) xs (ys ∷ yss) (i ∷ joins) (k ∷ ks) long keeps e =
    let head : sides_in i ≡ left_side k = ap (λ (l : List Sides). get_or l 0 (sides_in i)) e in
    let left : i.left ≡ k.left = ap (λ (s : Sides). s.left) head in (
      subst (SameBag xs) (sym left) keeps.0,
      ap (λ (s : Sides). s.right) head,
      to_left js (joint_rows j xs ys) yss joins ks (omega (arith, long)) keeps.2 (ap (λ (l : List Sides). drop 1 l) e),
    )

from_left : (js : List Joint) (xs : List Row) (yss : List (List Row)) (joins : List JoinValue) → KeepsLeft js xs yss joins → KeptBy true js xs yss joins
from_left [] xs yss [] h = ([], tt, refl)
from_left [] xs yss (i ∷ joins) h = absurd h
from_left (j ∷ js) xs [] joins h = absurd h
from_left (j ∷ js) xs (ys ∷ yss) [] h = absurd h
from_left (j ∷ js) xs (ys ∷ yss) (i ∷ joins) h =
    let rest = from_left js (joint_rows j xs ys) yss joins h.2 in
    let here : Sides = record { left = i.left; right = ys } in
    let first : sides_in i ≡ left_side here = ap (λ (r : List Row). record { left = i.left; right = r }) h.1 in (
      here ∷ rest.0,
      (h.0, λ f. refl, rest.1),
      ap (λ (s : Sides). s ∷ map sides_in joins) first ∙ ap (λ (l : List Sides). left_side here ∷ l) rest.2,
    )

-- none stays none
nothing_like : (xs : List Row) → SameBag [] xs → xs ≡ []
nothing_like [] same = refl
nothing_like (x ∷ xs) same = absurd (omega (arith, same (λ r. 1)))

left_goes : (i : JoinValue) (m : Pair) (p : SideMoves) (xs xs' : List Row) → side_moves m ≡ left_moves p → SameBag xs i.left → MovesBag xs p.left xs' → MovesBag i.left m.0 xs'
left_goes i m p xs xs' e same moved =
    let here : m.0 ≡ p.left = ap (λ (p : SideMoves). p.left) e in
    let goes : MovesBag i.left p.left xs' = λ f. omega (arith, same f, moved f) in
    subst (λ (ms : List Signed). MovesBag i.left ms xs') (sym here) goes

right_stays : (i : JoinValue) (m : Pair) (p : SideMoves) → side_moves m ≡ left_moves p → i.right ≡ [] → MovesBag i.right m.1 []
right_stays i m p e none =
    let here : m.1 ≡ [] = ap (λ (p : SideMoves). p.right) e in
    let stays : MovesBag [] [] [] = λ f. refl in
    subst (λ (ms : List Signed). MovesBag i.right ms []) (sym here) (subst (λ (rows : List Row). MovesBag rows [] []) (sym none) stays)

-- they can go where the moves of both sides take the chain
can_left : (js : List Joint) (joins : List JoinValue) (xs xs' : List Row) (yss yss' : List (List Row)) (ms : List Pair) (ps : List SideMoves)
    → KeepsLeft js xs yss joins → MovesChain js xs yss ps xs' yss' → map side_moves ms ≡ map left_moves ps → AllZip CanMove joins ms
can_left [] [] xs xs' yss yss' [] ps keeps moves e = tt
can_left [] [] xs xs' yss yss' (m ∷ ms) [] keeps moves e = absurd (omega (arith, ap length e))
can_left [] [] xs xs' yss yss' (m ∷ ms) (p ∷ ps) keeps moves e = absurd moves
can_left [] (i ∷ joins) xs xs' yss yss' ms ps keeps moves e = absurd keeps
can_left (j ∷ js) joins xs xs' [] yss' ms ps keeps moves e = absurd keeps
can_left (j ∷ js) [] xs xs' (ys ∷ yss) yss' ms ps keeps moves e = absurd keeps
can_left (j ∷ js) (i ∷ joins) xs xs' (ys ∷ yss) yss' ms [] keeps moves e = absurd moves
can_left (j ∷ js) (i ∷ joins) xs xs' (ys ∷ yss) [] ms (p ∷ ps) keeps moves e = absurd moves
can_left (j ∷ js) (i ∷ joins) xs xs' (ys ∷ yss) (ys' ∷ yss') [] (p ∷ ps) keeps moves e = absurd (omega (arith, ap length e))
can_left (j ∷ js) (i ∷ joins) xs xs' (ys ∷ yss) (ys' ∷ yss') (m ∷ ms) (p ∷ ps) keeps moves e =
    let head : side_moves m ≡ left_moves p = ap (λ (l : List SideMoves). get_or l 0 (side_moves m)) e in (
      record { left_rows = xs'; right_rows = []; left = left_goes i m p xs xs' head keeps.0 moves.0; right = right_stays i m p head keeps.1 },
      can_left js joins (joint_rows j xs ys) (joint_rows j xs' ys') yss yss' ms ps keeps.2 moves.2 (ap (λ (l : List SideMoves). drop 1 l) e),
    )

-- and keep what comes to them there
moved_left : (js : List Joint) (joins joins' : List JoinValue) (xs xs' : List Row) (yss yss' : List (List Row)) (ms : List Pair) (ps : List SideMoves) → AllMoved joins ms joins'
    → KeepsLeft js xs yss joins → MovesChain js xs yss ps xs' yss' → map side_moves ms ≡ map left_moves ps → KeepsLeft js xs' yss' joins'
moved_left [] [] [] xs xs' yss yss' ms ps all keeps moves e = tt
moved_left [] [] (i' ∷ joins') xs xs' yss yss' [] ps all keeps moves e = absurd all
moved_left [] [] (i' ∷ joins') xs xs' yss yss' (m ∷ ms) ps all keeps moves e = absurd all
moved_left [] (i ∷ joins) joins' xs xs' yss yss' ms ps all keeps moves e = absurd keeps
moved_left (j ∷ js) joins joins' xs xs' [] yss' ms ps all keeps moves e = absurd keeps
moved_left (j ∷ js) [] joins' xs xs' (ys ∷ yss) yss' ms ps all keeps moves e = absurd keeps
moved_left (j ∷ js) (i ∷ joins) joins' xs xs' (ys ∷ yss) yss' ms [] all keeps moves e = absurd moves
moved_left (j ∷ js) (i ∷ joins) joins' xs xs' (ys ∷ yss) [] ms (p ∷ ps) all keeps moves e = absurd moves
moved_left (j ∷ js) (i ∷ joins) joins' xs xs' (ys ∷ yss) (ys' ∷ yss') [] (p ∷ ps) all keeps moves e = absurd (omega (arith, ap length e))
moved_left (j ∷ js) (i ∷ joins) [] xs xs' (ys ∷ yss) (ys' ∷ yss') (m ∷ ms) (p ∷ ps) all keeps moves e = absurd all
moved_left (j ∷ js) (i ∷ joins) (i' ∷ joins') xs xs' (ys ∷ yss) (ys' ∷ yss') (m ∷ ms) (p ∷ ps) all keeps moves e =
    let head : side_moves m ≡ left_moves p = ap (λ (l : List SideMoves). get_or l 0 (side_moves m)) e in
    let both = all.0.sides xs' [] (left_goes i m p xs xs' head keeps.0 moves.0) (right_stays i m p head keeps.1) in (
      both.0,
      nothing_like i'.right both.1,
      moved_left js joins joins' (joint_rows j xs ys) (joint_rows j xs' ys') yss yss' ms ps all.1 keeps.2 moves.2 (ap (λ (l : List SideMoves). drop 1 l) e),
    )

-- as do joins that are alike
like_left : (js : List Joint) (joins joins' : List JoinValue) (xs : List Row) (yss : List (List Row)) → AllZip LikeJoin joins joins' → KeepsLeft js xs yss joins → KeepsLeft js xs yss joins'
like_left [] [] [] xs yss all keeps = tt
like_left [] [] (i' ∷ joins') xs yss all keeps = absurd all
like_left [] (i ∷ joins) joins' xs yss all keeps = absurd keeps
like_left (j ∷ js) joins joins' xs [] all keeps = absurd keeps
like_left (j ∷ js) [] joins' xs (ys ∷ yss) all keeps = absurd keeps
like_left (j ∷ js) (i ∷ joins) [] xs (ys ∷ yss) all keeps = absurd all
like_left (j ∷ js) (i ∷ joins) (i' ∷ joins') xs (ys ∷ yss) all keeps =
    let none : SameBag [] i'.right = subst (λ (rows : List Row). SameBag rows i'.right) keeps.1 all.0.right in
    (λ f. keeps.0 f ∙ all.0.left f, nothing_like i'.right none, like_left js joins joins' (joint_rows j xs ys) yss all.1 keeps.2)

-- both kinds of joins
module _ (joins : List JoinValue) (xs : List Row) (yss : List (List Row)) where
  abbrev js : List Joint
  js = map joint_in joins

  long : length joins ≡ length js
  long = sym (length-map joins joint_in)

  pub can_either : (b : Bool) → KeptBy b js xs yss joins → (xs' : List Row) (yss' : List (List Row)) (ms : List Pair) (ps : List SideMoves)
      → MovesChain js xs yss ps xs' yss' → map side_moves ms ≡ cond b (map left_moves ps) ps → AllZip CanMove joins ms
  can_either true kept xs' yss' ms ps moves e = can_left js joins xs xs' yss yss' ms ps (to_left js xs yss joins kept.0 long kept.1 kept.2) moves e
  can_either false kept xs' yss' ms ps moves e =
      can_move joins xs xs' yss yss' ms (subst (Keeps js xs yss) (sym kept.2) kept.1) (subst (λ (ps : List SideMoves). MovesChain js xs yss ps xs' yss') (sym e) moves)

  pub moved_either : (b : Bool) → KeptBy b js xs yss joins → (joins' : List JoinValue) (xs' : List Row) (yss' : List (List Row)) (ms : List Pair) (ps : List SideMoves) → AllMoved joins ms joins'
      → MovesChain js xs yss ps xs' yss' → map side_moves ms ≡ cond b (map left_moves ps) ps → KeptBy b js xs' yss' joins'
  moved_either true kept joins' xs' yss' ms ps all moves e =
      from_left js xs' yss' joins' (moved_left js joins joins' xs xs' yss yss' ms ps all (to_left js xs yss joins kept.0 long kept.1 kept.2) moves e)
  moved_either false kept joins' xs' yss' ms ps all moves e =
      let keeps = subst (Keeps js xs yss) (sym kept.2) kept.1 in
      let goes = subst (λ (ps : List SideMoves). MovesChain js xs yss ps xs' yss') (sym e) moves in
      (map sides_in joins', keeps_on joins joins' xs xs' yss yss' ms all keeps goes, refl)

  pub like_either : (b : Bool) → KeptBy b js xs yss joins → (joins' : List JoinValue) → AllZip LikeJoin joins joins' → KeptBy b js xs yss joins'
  like_either true kept joins' all = from_left js xs yss joins' (like_left js joins joins' xs yss all (to_left js xs yss joins kept.0 long kept.1 kept.2))
  like_either false kept joins' all = (map sides_in joins', like_keeps js joins joins' xs yss all (subst (Keeps js xs yss) (sym kept.2) kept.1), refl)
