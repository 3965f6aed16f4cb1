-- A walk of some joins goes on through the others.
use Rattle.std.proofs.Common.{◌≡◌, ◌<◌, ◌≤◌, ◌+◌, ℕ, suc, List, [], ◌∷◌, ◌++◌, length, map, take, drop, get_or, refl, arith, ap, sym, ◌∙◌, subst, drop-cons}
use Rattle.std.specs.List.{AllByRecursion}
use Rattle.std.proofs.lemmas.List.{length-map, length-drop, length-take-le, map-append, take-append-drop}
use Rattle.ss_text.proofs.GroupLemmas.{all_front}
use Rattle.operator_law.specs.declared.delta.Signed.{Signed}
use Rattle.join_delta.specs.Joined.{pairs_right, pairs_left}
use Rattle.join_delta.specs.Joins.{JoinValue}
use Rattle.schema_delta.specs.Net.{IsNet}
use Rattle.plan_law.specs.Chain.{Joint, Sides, SideMoves, joint_moves, Walks, AreNet, walk_pairs}
use Rattle.plan_translate.specs.ChainStages.{joint_in, sides_in, side_moves}
use Rattle.plan_translate.specs.ChainCost.{CostsWalk}
use Rattle.plan_translate.proofs.ChainNets.{net_there}
use Rattle.plan_translate.proofs.ChainStages.{walks_append, pairs_append, nets_append}

-- for any moves there is a walk
pub walk_there : (js : List Joint) (ks : List Sides) (ms : List Signed) (nss : List (List Signed)) → length js ≤ length ks → length js ≤ length nss → (n : ℕ) → CostsWalk js ks ms nss n n
walk_there [] ks ms nss a b n = record { moves = []; out = ms; walks = refl; nets = λ f h. (tt, f); within = omega arith }
walk_there (j ∷ js) [] ms nss a b n = absurd (omega (arith, a))
walk_there (j ∷ js) (k ∷ ks) ms [] a b n = absurd (omega (arith, b))
walk_there (j ∷ js) (k ∷ ks) ms (ns ∷ nss) a b n =
    let next = net_there (joint_moves j k ms ns) in
    let rest = walk_there js ks next.0 nss (omega (arith, a)) (omega (arith, b)) n in
    record {
      moves = record { left = ms; right = ns } ∷ rest.moves;
      out = rest.out;
      walks = (refl, (next.0, next.1, rest.walks));
      nets = λ f h. let r = rest.nets next.2 h.1 in ((f, h.0, r.0), r.1);
      within = omega arith;
    }

all_back : {X : Type 0} (P : X → Type 0) (xs ys : List X) → AllByRecursion P (xs ++ ys) → AllByRecursion P ys
all_back P [] ys h = h
all_back P (x ∷ xs) ys h = all_back P xs ys h.1

-- the pairs of its first join are among all
first_pairs : (j : Joint) (js : List Joint) (k : Sides) (ks : List Sides) (ms ns : List Signed) (nss : List (List Signed)) (ps : List SideMoves) (out : List Signed)
    → Walks (j ∷ js) (k ∷ ks) ms (ns ∷ nss) ps out → pairs_right j.keys k.right ms + pairs_left j.keys k.left ns ≤ walk_pairs (j ∷ js) (k ∷ ks) ps
first_pairs j js k ks ms ns nss [] out w = absurd w
first_pairs j js k ks ms ns nss (p ∷ ps) out w =
    subst (λ (p : SideMoves). pairs_right j.keys k.right ms + pairs_left j.keys k.left ns ≤ walk_pairs (j ∷ js) (k ∷ ks) (p ∷ ps)) (sym w.0) (omega arith)

module _ (js : List Joint) (ks : List Sides) (first : List Signed) (nss : List (List Signed)) (ps : List SideMoves) (out : List Signed) (old now new : ℕ)
    (sides_long : length ks ≡ length js) (moves_long : length nss ≡ length js) (each : length ps ≡ length js)
    (walks : Walks js ks first nss ps out) (nets : IsNet first → AllByRecursion IsNet nss → AreNet ps × IsNet out) (cost : now ≤ old + walk_pairs js ks ps) where
  goes_on : (j : Joint) (js' : List Joint) (k : Sides) (ks' : List Sides) (ns : List Signed) (nss' : List (List Signed)) → length js' ≤ length ks' → length js' ≤ length nss'
      → new ≤ now + (pairs_right j.keys k.right out + pairs_left j.keys k.left ns) → CostsWalk (js ++ j ∷ js') (ks ++ k ∷ ks') first (nss ++ ns ∷ nss') old new
  goes_on j js' k ks' ns nss' a b more =
      let rest = walk_there (j ∷ js') (k ∷ ks') out (ns ∷ nss') (omega (arith, a)) (omega (arith, b)) 0 in
      record {
        moves = ps ++ rest.moves;
        out = rest.out;
        walks = walks_append js (j ∷ js') ks (k ∷ ks') first nss (ns ∷ nss') ps rest.moves out rest.out sides_long moves_long each walks rest.walks;
        nets = λ f h.
            let here = nets f (all_front IsNet nss (ns ∷ nss') h) in
            let there = rest.nets here.1 (all_back IsNet nss (ns ∷ nss') h) in
            (nets_append ps rest.moves here.0 there.0, there.1);
        within = omega (
          arith,
          cost,
          more,
          pairs_append js (j ∷ js') ks (k ∷ ks') ps rest.moves sides_long each,
          first_pairs j js' k ks' out ns nss' rest.moves rest.out rest.walks,
        );
      }

-- as the loop says it, where a join is not walked through to its end
split_at : {X : Type 0} (xs : List X) (n : ℕ) (x : X) → n < length xs → x ≡ get_or xs n x → xs ≡ take n xs ++ x ∷ drop (suc n) xs
split_at xs n x lt at = sym (take-append-drop n xs) ∙ ap (λ l. take n xs ++ l) (drop-cons xs n x lt ∙ ap (λ y. y ∷ drop (suc n) xs) (sym at))

module _ (joins : List JoinValue) (n : ℕ) (j : JoinValue) (lt : n < length joins) (at : j ≡ get_or joins n j) (qs : List (List Signed × List Signed)) (out : List Signed) (long : length qs ≡ n) where
  joints_split : map joint_in joins ≡ map joint_in (take n joins) ++ joint_in j ∷ map joint_in (drop (suc n) joins)
  joints_split = ap (map joint_in) (split_at joins n j lt at) ∙ map-append joint_in (take n joins) (j ∷ drop (suc n) joins)

  sides_split : map sides_in joins ≡ map sides_in (take n joins) ++ sides_in j ∷ map sides_in (drop (suc n) joins)
  sides_split = ap (map sides_in) (split_at joins n j lt at) ∙ map-append sides_in (take n joins) (j ∷ drop (suc n) joins)

  pub breaks_off : (first : List Signed) (olds nss : List (List Signed)) (ns : List Signed) (old now new : ℕ) → length nss ≡ length joins → length olds ≡ n → olds ≡ take n nss → ns ≡ get_or nss n ns
      → Walks (map joint_in (take n joins)) (map sides_in (take n joins)) first olds (map side_moves qs) out → (IsNet first → AllByRecursion IsNet olds → AreNet (map side_moves qs) × IsNet out)
      → now ≤ old + walk_pairs (map joint_in (take n joins)) (map sides_in (take n joins)) (map side_moves qs) → new ≤ now + pairs_right (joint_in j).keys j.right out + pairs_left (joint_in j).keys j.left ns
      → CostsWalk (map joint_in joins) (map sides_in joins) first nss old new
  breaks_off first olds nss ns old now new same olds_long front is walks nets cost more =
      let js = map joint_in (take n joins) in
      let ks = map sides_in (take n joins) in
      let js' = map joint_in (drop (suc n) joins) in
      let ks' = map sides_in (drop (suc n) joins) in
      let joints_long : length js ≡ n = length-map (take n joins) joint_in ∙ length-take-le n joins (omega (arith, lt)) in
      let sides_long : length ks ≡ n = length-map (take n joins) sides_in ∙ length-take-le n joins (omega (arith, lt)) in
      let moves_long : length (map side_moves qs) ≡ n = length-map qs side_moves ∙ long in
      let joints_left : length js' ≡ length (drop (suc n) joins) = length-map (drop (suc n) joins) joint_in in
      let sides_left : length ks' ≡ length (drop (suc n) joins) = length-map (drop (suc n) joins) sides_in in
      let whole : nss ≡ olds ++ ns ∷ drop (suc n) nss = split_at nss n ns (omega (arith, lt, same)) is ∙ ap (λ (l : List (List Signed)). l ++ ns ∷ drop (suc n) nss) (sym front) in
      subst (λ (l : List (List Signed)). CostsWalk (map joint_in joins) (map sides_in joins) first l old new) (sym whole)
      (subst (λ (l : List Sides). CostsWalk (map joint_in joins) l first (olds ++ ns ∷ drop (suc n) nss) old new) (sym sides_split)
      (subst (λ (l : List Joint). CostsWalk l (ks ++ sides_in j ∷ ks') first (olds ++ ns ∷ drop (suc n) nss) old new) (sym joints_split)
      (goes_on js ks first olds (map side_moves qs) out old now new (omega (arith, joints_long, sides_long)) (omega (arith, joints_long, olds_long)) (omega (arith, joints_long, moves_long)) walks nets cost
      (joint_in j) js' (sides_in j) ks' ns (drop (suc n) nss) (omega (arith, joints_left, sides_left)) (omega (arith, joints_left, length-drop (suc n) joins, length-drop (suc n) nss, same)) (omega (arith, more)))))
