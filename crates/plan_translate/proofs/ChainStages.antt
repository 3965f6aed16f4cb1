-- One more stage of a walk.
use Rattle.std.proofs.Common.{◌≡◌, ℕ, ◌+◌, List, [], ◌∷◌, ◌++◌, length, filter, map, take, get_or, ◌<◌, true, cond, refl, arith, ap, sym, ◌∙◌, subst}
use Rattle.std.specs.List.{AllByRecursion}
use Rattle.std.proofs.lemmas.List.{take_more, length_push, length-take-le, length-map, map-append}
use Rattle.operator_law.specs.declared.delta.Signed.{Signed}
use Rattle.operator_law.specs.Bags.{SameBag, come, go}
use Rattle.join_delta.specs.Joined.{joined_moves, pairs_right, pairs_left}
use Rattle.join_delta.specs.Joins.{JoinValue}
use Rattle.schema_delta.specs.Net.{SameNet, IsNet}
use Rattle.plan_law.specs.Chain.{Joint, Sides, SideMoves, joint_moves, Walks, AreNet, walk_pairs}
use Rattle.plan_translate.specs.ChainStages.{joint_in, sides_in, side_moves}

all_pass : (ms : List Signed) → filter (λ (m : Signed). true) ms ≡ ms
all_pass [] = refl
all_pass (m ∷ ms) = ap (λ l. m ∷ l) (all_pass ms)

-- what a join gives in net
pub net_of_join : (j : JoinValue) (ms ns d next : List Signed) → SameBag d (joined_moves (joint_in j).keys j.left j.right ms ns) → SameNet d next → SameNet (joint_moves (joint_in j) (sides_in j) ms ns) next
net_of_join j ms ns d next bag net f =
    let all = joined_moves (joint_in j).keys j.left j.right ms ns in
    let pass = all_pass all in
    omega (
      arith,
      net f,
      bag (λ (m : Signed). cond m.up (f m.row) 0),
      bag (λ (m : Signed). cond m.up 0 (f m.row)),
      ap (come f) pass,
      ap (go f) pass,
    )

-- a walk through some joins, and then through others
pub walks_append : (js js' : List Joint) (ks ks' : List Sides) (ms : List Signed) (nss nss' : List (List Signed)) (ps ps' : List SideMoves) (mid out : List Signed)
    → length ks ≡ length js → length nss ≡ length js → length ps ≡ length js → Walks js ks ms nss ps mid → Walks js' ks' mid nss' ps' out → Walks (js ++ js') (ks ++ ks') ms (nss ++ nss') (ps ++ ps') out
walks_append [] js' [] ks' ms [] nss' [] ps' mid out a b c w h = subst (λ (l : List Signed). Walks js' ks' l nss' ps' out) (sym w) h
walks_append [] js' (k ∷ ks) ks' ms nss nss' ps ps' mid out a b c w h = absurd (omega (arith, a))
walks_append [] js' [] ks' ms (n ∷ nss) nss' ps ps' mid out a b c w h = absurd (omega (arith, b))
walks_append [] js' [] ks' ms [] nss' (p ∷ ps) ps' mid out a b c w h = absurd (omega (arith, c))
walks_append (j ∷ js) js' [] ks' ms nss nss' ps ps' mid out a b c w h = absurd (omega (arith, a))
walks_append (j ∷ js) js' (k ∷ ks) ks' ms [] nss' ps ps' mid out a b c w h = absurd (omega (arith, b))
walks_append (j ∷ js) js' (k ∷ ks) ks' ms (n ∷ nss) nss' [] ps' mid out a b c w h = absurd (omega (arith, c))
walks_append (j ∷ js) js' (k ∷ ks) ks' ms (n ∷ nss) nss' (p ∷ ps) ps' mid out a b c w h =
    (w.0, (w.1.0, w.1.1, walks_append js js' ks ks' w.1.0 nss nss' ps ps' mid out (omega (arith, a)) (omega (arith, b)) (omega (arith, c)) w.1.2 h))

pub pairs_append : (js js' : List Joint) (ks ks' : List Sides) (ps ps' : List SideMoves)
    → length ks ≡ length js → length ps ≡ length js → walk_pairs (js ++ js') (ks ++ ks') (ps ++ ps') ≡ walk_pairs js ks ps + walk_pairs js' ks' ps'
pairs_append [] js' [] ks' [] ps' a c = omega arith
pairs_append [] js' (k ∷ ks) ks' ps ps' a c = absurd (omega (arith, a))
pairs_append [] js' [] ks' (p ∷ ps) ps' a c = absurd (omega (arith, c))
pairs_append (j ∷ js) js' [] ks' ps ps' a c = absurd (omega (arith, a))
pairs_append (j ∷ js) js' (k ∷ ks) ks' [] ps' a c = absurd (omega (arith, c))
pairs_append (j ∷ js) js' (k ∷ ks) ks' (p ∷ ps) ps' a c = omega (arith, pairs_append js js' ks ks' ps ps' (omega (arith, a)) (omega (arith, c)))

pub nets_append : (ps ps' : List SideMoves) → AreNet ps → AreNet ps' → AreNet (ps ++ ps')
nets_append [] ps' h more = more
nets_append (p ∷ ps) ps' h more = (h.0, h.1, nets_append ps ps' h.2 more)

pub all_last : {X : Type 0} (P : X → Type 0) (xs : List X) (y : X) → AllByRecursion P (xs ++ y ∷ []) → P y
all_last P [] y h = h.0
all_last P (x ∷ xs) y h = all_last P xs y h.1

-- one more of the joins is walked through
module _ (joins : List JoinValue) (n : ℕ) (j : JoinValue) (lt : n < length joins) (at : j ≡ get_or joins n j) where
  one_more : take (n + 1) joins ≡ take n joins ++ j ∷ []
  one_more = take_more joins n j lt ∙ sym (ap (λ (k : JoinValue). take n joins ++ k ∷ []) at)

  pub joints_more : map joint_in (take (n + 1) joins) ≡ map joint_in (take n joins) ++ joint_in j ∷ []
  joints_more = ap (map joint_in) one_more ∙ map-append joint_in (take n joins) (j ∷ [])

  sides_more : map sides_in (take (n + 1) joins) ≡ map sides_in (take n joins) ++ sides_in j ∷ []
  sides_more = ap (map sides_in) one_more ∙ map-append sides_in (take n joins) (j ∷ [])

  joints_long : length (map joint_in (take n joins)) ≡ n
  joints_long = length-map (take n joins) joint_in ∙ length-take-le n joins (omega (arith, lt))

  sides_long : length (map sides_in (take n joins)) ≡ n
  sides_long = length-map (take n joins) sides_in ∙ length-take-le n joins (omega (arith, lt))

  pub walks_more : (ms : List Signed) (nss : List (List Signed)) (ps : List SideMoves) (out ns next : List Signed) → length nss ≡ n → length ps ≡ n
      → Walks (map joint_in (take n joins)) (map sides_in (take n joins)) ms nss ps out → SameNet (joint_moves (joint_in j) (sides_in j) out ns) next
      → Walks (map joint_in (take (n + 1) joins)) (map sides_in (take (n + 1) joins)) ms (nss ++ ns ∷ []) (ps ++ record { left = out; right = ns } ∷ []) next
  walks_more ms nss ps out ns next a b w h =
      let js = map joint_in (take n joins) in
      let ks = map sides_in (take n joins) in
      let p : SideMoves = record { left = out; right = ns } in
      let now = walks_append js (joint_in j ∷ []) ks (sides_in j ∷ []) ms nss (ns ∷ []) ps (p ∷ []) out next (omega (arith, joints_long, sides_long)) (omega (arith, joints_long, a)) (omega (arith, joints_long, b)) w (refl, (next, h, refl)) in
      subst (λ (kk : List Sides). Walks (map joint_in (take (n + 1) joins)) kk ms (nss ++ ns ∷ []) (ps ++ record { left = out; right = ns } ∷ []) next) (sym sides_more)
      (subst (λ (jj : List Joint). Walks jj (ks ++ sides_in j ∷ []) ms (nss ++ ns ∷ []) (ps ++ record { left = out; right = ns } ∷ []) next) (sym joints_more) now)

  pub pairs_more : (ps : List SideMoves) (p : SideMoves) → length ps ≡ n
      → walk_pairs (map joint_in (take (n + 1) joins)) (map sides_in (take (n + 1) joins)) (ps ++ p ∷ [])
      ≡ walk_pairs (map joint_in (take n joins)) (map sides_in (take n joins)) ps + (pairs_right (joint_in j).keys j.right p.left + pairs_left (joint_in j).keys j.left p.right)
  pairs_more ps p a =
      let js = map joint_in (take n joins) in
      let ks = map sides_in (take n joins) in
      let pairs = pairs_append js (joint_in j ∷ []) ks (sides_in j ∷ []) ps (p ∷ []) (omega (arith, joints_long, sides_long)) (omega (arith, joints_long, a)) in
      ap (λ (jj : List Joint). walk_pairs jj (map sides_in (take (n + 1) joins)) (ps ++ p ∷ [])) joints_more
      ∙ ap (λ (kk : List Sides). walk_pairs (js ++ joint_in j ∷ []) kk (ps ++ p ∷ [])) sides_more
      ∙ omega (arith, pairs)

  -- as the loop says it
  module _ (qs rs : List (List Signed × List Signed)) (out ns : List Signed) (m : ℕ) (one : m ≡ n + 1) (long : length qs ≡ n) (push : rs ≡ qs ++ (out, ns) ∷ []) where
    pushed : map side_moves rs ≡ map side_moves qs ++ record { left = out; right = ns } ∷ []
    pushed = ap (map side_moves) push ∙ map-append side_moves qs ((out, ns) ∷ [])

    pub long_on : length rs ≡ m
    long_on = omega (arith, one, long, ap length push, length_push qs (out, ns))

    qs_long : length (map side_moves qs) ≡ n
    qs_long = length-map qs side_moves ∙ long

    pub walks_on : (ms : List Signed) (nss : List (List Signed)) (next : List Signed) → length nss ≡ n
        → Walks (map joint_in (take n joins)) (map sides_in (take n joins)) ms nss (map side_moves qs) out → SameNet (joint_moves (joint_in j) (sides_in j) out ns) next
        → Walks (map joint_in (take m joins)) (map sides_in (take m joins)) ms (nss ++ ns ∷ []) (map side_moves rs) next
    walks_on ms nss next a w h =
        subst (λ (k : ℕ). Walks (map joint_in (take k joins)) (map sides_in (take k joins)) ms (nss ++ ns ∷ []) (map side_moves rs) next) (sym one)
        (subst (λ (ps : List SideMoves). Walks (map joint_in (take (n + 1) joins)) (map sides_in (take (n + 1) joins)) ms (nss ++ ns ∷ []) ps next) (sym pushed)
        (walks_more ms nss (map side_moves qs) out ns next a qs_long w h))

    pub pairs_on : walk_pairs (map joint_in (take m joins)) (map sides_in (take m joins)) (map side_moves rs)
        ≡ walk_pairs (map joint_in (take n joins)) (map sides_in (take n joins)) (map side_moves qs) + (pairs_right (joint_in j).keys j.right out + pairs_left (joint_in j).keys j.left ns)
    pairs_on =
        ap (λ (k : ℕ). walk_pairs (map joint_in (take k joins)) (map sides_in (take k joins)) (map side_moves rs)) one
        ∙ ap (λ (ps : List SideMoves). walk_pairs (map joint_in (take (n + 1) joins)) (map sides_in (take (n + 1) joins)) ps) pushed
        ∙ pairs_more (map side_moves qs) (record { left = out; right = ns }) qs_long

    pub nets_on : AreNet (map side_moves qs) → IsNet out → IsNet ns → AreNet (map side_moves rs)
    nets_on h l r = subst AreNet (sym pushed) (nets_append (map side_moves qs) (record { left = out; right = ns } ∷ []) h (l, r, tt))
