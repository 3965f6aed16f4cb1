-- The walk of a change by which marked rows come to the others, or go from all: what its joins count is marked.
use Rattle.std.proofs.Common.{◌≡◌, subst, ℕ, ◌+◌, ◌*◌, ◌≤◌, List, [], ◌∷◌, ◌++◌, length, Bool, true, false, ◌||◌, not, cond, filter, map, refl, arith, ap, sym, ◌∙◌}
use Rattle.std.specs.List.{sum_by}
use Rattle.std.proofs.lemmas.List.{length-map}
use Rattle.std.proofs.lemmas.List.Recursion.{is_sum_by}
use Rattle.ss_text.specs.Texts.{Text, Row}
use Rattle.schema_delta.specs.Net.{SameNet, IsNet}
use Rattle.plan_law.specs.Chain.{Joint, Sides, SideMoves, joint_rows, joint_moves, Keeps, Walks, AreNet, walk_pairs}
use Rattle.plan_law.specs.Touched.{Marked, marked_pairs, count_marked}
use Rattle.operator_law.proofs.SignedRows.{come-filtered, go-filtered}
use Rattle.plan_law.proofs.Net.{ups_come, downs_go, net_ups, net_downs, fewest}
use Rattle.plan_law.proofs.TouchedLaws.{pairs, marked, plain, any, cells_of, weigh-cells, weigh-parts, weigh-pairs, plain_counted, any_counted, weigh-plain, weigh-any, pairs_cells}
use Rattle.operator_law.specs.declared.delta.Signed.{Signed}
use Rattle.operator_law.specs.Bags.{weigh, come, go, MovesBag, SameBag, all_signed}
use Rattle.join_delta.specs.Joined.{PairTest, joined, joined_moves, pairs_left, pairs_right}
use Rattle.operator_law.proofs.Weights.{weigh-same, weigh-filter, weigh-swap}
use Rattle.plan_law.proofs.Weights.{weigh-joined, swap_tests}
use Rattle.join_delta.proofs.Bilinear.{same_joined, moves_joined_kept}

-- rows with marks
abbrev pub Marks : Type 0
Marks = List (Marked Text)

-- the rows before: where the marked ones come they are the others, and where they go all
abbrev pub kept : Bool → Bool → Bool
kept true b = not b
kept false b = true

abbrev pub rows_before : Bool → Marks → List Row
rows_before up xs = cells_of (kept up) xs

-- the marked rows, as moves
abbrev pub mark_moves : Bool → Marks → List Signed
mark_moves up xs = all_signed up (cells_of marked xs)

marks_moved : (up : Bool) (xs : Marks) (ms : List Signed) → SameNet ms (mark_moves up xs) → MovesBag (rows_before up xs) ms (rows_before (not up) xs)
marks_moved true xs ms same f = let r = ups_come f (cells_of marked xs) in omega (arith, weigh-parts f xs, same f, r.0, r.1)
marks_moved false xs ms same f = let r = downs_go f (cells_of marked xs) in omega (arith, weigh-parts f xs, same f, r.0, r.1)

-- what moves in net weigh that are the marked rows
both_signs : (f : Row → ℕ) (ms : List Signed) → weigh (λ (m : Signed). f m.row) ms ≡ come f ms + go f ms
both_signs f [] = refl
both_signs f (m ∷ ms) = one m.up (both_signs f ms)
  where
    one : (b : Bool) → weigh (λ (m : Signed). f m.row) ms ≡ come f ms + go f ms → f m.row + weigh (λ (m : Signed). f m.row) ms ≡ (cond b (f m.row) 0 + come f ms) + (cond b 0 (f m.row) + go f ms)
    one true e = omega arith
    one false e = omega arith

net_weigh : (up : Bool) (xs : Marks) (ms : List Signed) → IsNet ms → SameNet ms (mark_moves up xs) → (f : Row → ℕ) → weigh (λ (m : Signed). f m.row) ms ≡ weigh f (cells_of marked xs)
net_weigh true xs ms net same f = let r = net_ups ms (cells_of marked xs) net same f in omega (arith, both_signs f ms, r.0, r.1)
net_weigh false xs ms net same f = let r = net_downs ms (cells_of marked xs) net same f in omega (arith, both_signs f ms, r.0, r.1)

-- pairs are counted one by one
count-weigh : (p : Row → Bool) (ys : List Row) → length (filter p ys) ≡ weigh (λ y. cond (p y) 1 0) ys
count-weigh p [] = refl
count-weigh p (y ∷ ys) = one (p y) (count-weigh p ys)
  where
    one : (b : Bool) → length (filter p ys) ≡ weigh (λ y. cond (p y) 1 0) ys → length (cond b (y ∷ filter p ys) (filter p ys)) ≡ cond b 1 0 + weigh (λ y. cond (p y) 1 0) ys
    one true e = omega (arith, e)
    one false e = omega (arith, e)

sum-weigh : (f g : Signed → ℕ) → ((m : Signed) → f m ≡ g m) → (ms : List Signed) → sum_by f ms ≡ weigh g ms
sum-weigh f g same ms = sym (is_sum_by (weigh f) f refl (λ m ms. refl) ms) ∙ weigh-same f g same ms

module _ (up : Bool) (t : PairTest) (xs ys : Marks) where
  pub kept_joined : SameBag (rows_before up (marked_pairs t xs ys)) (joined t (rows_before up xs) (rows_before up ys))
  kept_joined f = by_sign up f
    where
      by_sign : (up : Bool) (f : Row → ℕ) → weigh f (rows_before up (marked_pairs t xs ys)) ≡ weigh f (joined t (rows_before up xs) (rows_before up ys))
      by_sign true f = weigh-plain t f xs ys ∙ sym (weigh-joined t f (cells_of plain xs) (cells_of plain ys))
      by_sign false f = weigh-any t f xs ys ∙ sym (weigh-joined t f (cells_of any xs) (cells_of any ys))

module _ (up : Bool) (t : PairTest) (xs ys : Marks) (k : Sides) (ms ns : List Signed) (left : SameBag (rows_before up xs) k.left) (right : SameBag (rows_before up ys) k.right) (mx : SameNet ms (mark_moves up xs)) (my : SameNet ns (mark_moves up ys)) where
  -- the moves of the stage are its marked members
  stage_marked : SameNet (joined_moves t k.left k.right ms ns) (mark_moves up (marked_pairs t xs ys))
  stage_marked f =
      by_sign up (moves_joined_kept t (rows_before up xs) (rows_before up ys) k.left k.right (rows_before (not up) xs) (rows_before (not up) ys) ms ns left right (marks_moved up xs ms mx) (marks_moved up ys ns my) f)
      (kept_joined up t xs ys f) (kept_joined (not up) t xs ys f)
    where
      moves : List Signed
      moves = joined_moves t k.left k.right ms ns

      by_sign : (up : Bool) → weigh f (joined t (rows_before up xs) (rows_before up ys)) + come f moves ≡ weigh f (joined t (rows_before (not up) xs) (rows_before (not up) ys)) + go f moves
          → weigh f (rows_before up (marked_pairs t xs ys)) ≡ weigh f (joined t (rows_before up xs) (rows_before up ys))
          → weigh f (rows_before (not up) (marked_pairs t xs ys)) ≡ weigh f (joined t (rows_before (not up) xs) (rows_before (not up) ys))
          → come f moves + go f (mark_moves up (marked_pairs t xs ys)) ≡ come f (mark_moves up (marked_pairs t xs ys)) + go f moves
      by_sign true m a b = let r = ups_come f (cells_of marked (marked_pairs t xs ys)) in omega (arith, m, a, b, weigh-parts f (marked_pairs t xs ys), r.0, r.1)
      by_sign false m a b = let r = downs_go f (cells_of marked (marked_pairs t xs ys)) in omega (arith, m, a, b, weigh-parts f (marked_pairs t xs ys), r.0, r.1)

  right_pairs : IsNet ms → pairs_right t k.right ms ≡ pairs t marked (kept up) xs ys
  right_pairs net =
      let F : Row → ℕ = λ x. weigh (λ y. cond (t x y) 1 0) k.right in
      sum-weigh (λ (m : Signed). length (filter (t m.row) k.right)) (λ (m : Signed). F m.row) (λ (m : Signed). count-weigh (t m.row) k.right) ms
      ∙ net_weigh up xs ms net mx F
      ∙ weigh-same _ _ (λ x. sym (right (λ y. cond (t x y) 1 0))) (cells_of marked xs)
      ∙ pairs_cells t marked (kept up) xs ys

  left_pairs : IsNet ns → pairs_left t k.left ns ≡ pairs t (kept up) marked xs ys
  left_pairs net =
      let G : Row → ℕ = λ y. weigh (λ x. cond (t x y) 1 0) k.left in
      sum-weigh (λ (n : Signed). length (filter (λ x. t x n.row) k.left)) (λ (n : Signed). G n.row) (λ (n : Signed). count-weigh (λ x. t x n.row) k.left) ns
      ∙ net_weigh up ys ns net my G
      ∙ weigh-same _ _ (λ y. sym (left (λ x. cond (t x y) 1 0))) (cells_of marked ys)
      ∙ weigh-swap (λ y x. cond (t x y) 1 0) (cells_of marked ys) (rows_before up xs)
      ∙ pairs_cells t (kept up) marked xs ys

  -- the pairs that the join counts are at most twice its marked members
  join_counted : IsNet ms → IsNet ns → pairs_right t k.right ms + pairs_left t k.left ns ≤ 2 * count_marked (marked_pairs t xs ys)
  join_counted net net' = omega (arith, right_pairs net, left_pairs net', by_sign up)
    where
      by_sign : (up : Bool) → pairs t marked (kept up) xs ys + pairs t (kept up) marked xs ys ≤ 2 * count_marked (marked_pairs t xs ys)
      by_sign true = omega (arith, plain_counted t xs ys)
      by_sign false = any_counted t xs ys

-- those whose cells pass a test
abbrev pub passing : (Row → Bool) → Marks → Marks
passing test zs = filter (λ (z : Marked Text). test z.0) zs

abbrev pub next_rows : Joint → Marks → Marks → Marks
next_rows j xs ys = passing j.passes (marked_pairs j.keys xs ys)

pub weigh-passing : (p : Bool → Bool) (test : Row → Bool) (f : Row → ℕ) (zs : Marks) → weigh f (cells_of p (passing test zs)) ≡ weigh (λ r. cond (test r) (f r) 0) (cells_of p zs)
weigh-passing p test f zs =
    weigh-cells p f (passing test zs)
    ∙ weigh-filter _ (λ (z : Marked Text). test z.0) zs
    ∙ weigh-same _ _ (λ (z : Marked Text). swap_tests (test z.0) (p z.1) (f z.0)) zs
    ∙ sym (weigh-cells p _ zs)

pub marked_passing : (up : Bool) (test : Row → Bool) (ms : List Signed) (zs : Marks) → SameNet ms (mark_moves up zs) → SameNet (filter (λ (m : Signed). test m.row) ms) (mark_moves up (passing test zs))
marked_passing up test ms zs same f = by_sign up (same g) (come-filtered f test ms, go-filtered f test ms) (weigh-passing marked test f zs)
  where
    g : Row → ℕ
    g = λ r. cond (test r) (f r) 0

    passed : List Signed
    passed = filter (λ (m : Signed). test m.row) ms

    by_sign : (up : Bool) → come g ms + go g (mark_moves up zs) ≡ come g (mark_moves up zs) + go g ms → (come f passed ≡ come g ms) × (go f passed ≡ go g ms) → weigh f (cells_of marked (passing test zs)) ≡ weigh g (cells_of marked zs)
        → come f passed + go f (mark_moves up (passing test zs)) ≡ come f (mark_moves up (passing test zs)) + go f passed
    by_sign true s a w =
        let r = ups_come g (cells_of marked zs) in
        let p = ups_come f (cells_of marked (passing test zs)) in
        omega (arith, s, a.0, a.1, w, r.0, r.1, p.0, p.1)
    by_sign false s a w =
        let r = downs_go g (cells_of marked zs) in
        let p = downs_go f (cells_of marked (passing test zs)) in
        omega (arith, s, a.0, a.1, w, r.0, r.1, p.0, p.1)

-- the marked rows of each declaration move
abbrev pub MarksMove : Bool → List Marks → List (List Signed) → Type 0
MarksMove up [] [] = Unit {0}
MarksMove up (ys ∷ yss) (ns ∷ nss) = SameNet ns (mark_moves up ys) × MarksMove up yss nss
MarksMove up yss nss = ⊥

-- the rows before are these
abbrev pub AreBefore : Bool → List Marks → List (List Row) → Type 0
AreBefore up [] [] = Unit {0}
AreBefore up (ys ∷ yss) (zs ∷ zss) = SameBag (rows_before up ys) zs × AreBefore up yss zss
AreBefore up yss zss = ⊥

-- the marked members of the further stages, whatever passes
abbrev pub later_rows : List PairTest → Marks → List Marks → ℕ
later_rows [] xs yss = 0
later_rows (t ∷ ts) xs [] = 0
later_rows (t ∷ ts) xs (ys ∷ yss) = count_marked (marked_pairs t xs ys) + later_rows ts (marked_pairs t xs ys) yss

-- the rows of the last stage
abbrev pub last_rows : List Joint → Marks → List Marks → Marks
last_rows [] xs yss = xs
last_rows (j ∷ js) xs [] = xs
last_rows (j ∷ js) xs (ys ∷ yss) = last_rows js (next_rows j xs ys) yss

abbrev pub keys_of_all : List Joint → List PairTest
keys_of_all js = map (λ (j : Joint). j.keys) js

same_net : (ms ns os : List Signed) → SameNet ms ns → SameNet ms os → SameNet ns os
same_net ms ns os a b f = omega (arith, a f, b f)

-- no row more often
abbrev IsWithin : Marks → Marks → Type 0
IsWithin xs zs = (f : Marked Text → ℕ) → weigh f xs ≤ weigh f zs

passing_within : (test : Row → Bool) (zs : Marks) → IsWithin (passing test zs) zs
passing_within test [] f = omega arith
passing_within test (z ∷ zs) f = one (test z.0) (passing_within test zs f)
  where
    one : (b : Bool) → weigh f (passing test zs) ≤ weigh f zs → weigh f (cond b (z ∷ passing test zs) (passing test zs)) ≤ f z + weigh f zs
    one true e = omega arith
    one false e = omega arith

later_within : (ts : List PairTest) (xs zs : Marks) (yss : List Marks) → IsWithin xs zs → later_rows ts xs yss ≤ later_rows ts zs yss
later_within [] xs zs yss h = omega arith
later_within (t ∷ ts) xs zs [] h = omega arith
later_within (t ∷ ts) xs zs (ys ∷ yss) h =
    let more : IsWithin (marked_pairs t xs ys) (marked_pairs t zs ys) = λ f. omega (arith, weigh-pairs t f xs ys, weigh-pairs t f zs ys, h (λ (x : Marked Text). weigh (λ (y : Marked Text). cond (t x.0 y.0) (f (x.0 ++ y.0, x.1 || y.1)) 0) ys)) in
    omega (arith, more (λ (x : Marked Text). cond x.1 1 0), later_within ts (marked_pairs t xs ys) (marked_pairs t zs ys) yss more)

-- the rows before, stage by stage
next_before : (up : Bool) (j : Joint) (xs ys : Marks) (us vs : List Row) → SameBag (rows_before up xs) us → SameBag (rows_before up ys) vs → SameBag (rows_before up (next_rows j xs ys)) (joint_rows j us vs)
next_before up j xs ys us vs hx hy f =
    weigh-passing (kept up) j.passes f (marked_pairs j.keys xs ys)
    ∙ kept_joined up j.keys xs ys (λ r. cond (j.passes r) (f r) 0)
    ∙ same_joined j.keys (rows_before up xs) (rows_before up ys) us vs hx hy (λ r. cond (j.passes r) (f r) 0)
    ∙ sym (weigh-filter f j.passes (joined j.keys us vs))

-- all joins together count each marked member at most twice, and what comes out are those of the last stage
pub marked_walk : (up : Bool) (js : List Joint) (ks : List Sides) (us : List Row) (vss : List (List Row)) (xs : Marks) (yss : List Marks) (ms : List Signed) (nss : List (List Signed)) (ps : List SideMoves) (out : List Signed)
    → Keeps js us vss ks → SameBag (rows_before up xs) us → AreBefore up yss vss → SameNet ms (mark_moves up xs) → MarksMove up yss nss → Walks js ks ms nss ps out → AreNet ps
    → (walk_pairs js ks ps ≤ 2 * later_rows (keys_of_all js) xs yss) × SameNet out (mark_moves up (last_rows js xs yss))
marked_walk up [] ks us vss xs yss ms nss ps out keeps bx by mx each walk net = (omega arith, subst (λ (ms : List Signed). SameNet ms (mark_moves up xs)) walk mx)
marked_walk up (j ∷ js) (k ∷ ks) us (vs ∷ vss) xs (ys ∷ yss) ms (ns ∷ nss) (p ∷ ps) out keeps bx by mx each walk net =
    let left : SameBag (rows_before up xs) k.left = λ f. bx f ∙ keeps.0 f in
    let right : SameBag (rows_before up ys) k.right = λ f. by.0 f ∙ keeps.1 f in
    let marks = marked_passing up j.passes (joined_moves j.keys k.left k.right ms ns) (marked_pairs j.keys xs ys) (stage_marked up j.keys xs ys k ms ns left right mx each.0) in
    let net_left : IsNet ms = subst (λ (p : SideMoves). IsNet p.left) walk.0 net.0 in
    let net_right : IsNet ns = subst (λ (p : SideMoves). IsNet p.right) walk.0 net.1 in
    let counted = join_counted up j.keys xs ys k ms ns left right mx each.0 net_left net_right in
    let here : pairs_right j.keys k.right p.left + pairs_left j.keys k.left p.right ≡ pairs_right j.keys k.right ms + pairs_left j.keys k.left ns = ap (λ (p : SideMoves). pairs_right j.keys k.right p.left + pairs_left j.keys k.left p.right) walk.0 in
    let rest = marked_walk up js ks (joint_rows j us vs) vss (next_rows j xs ys) yss walk.1.0 nss ps out keeps.2 (next_before up j xs ys us vs bx by.0) by.1
    (same_net (joint_moves j k ms ns) walk.1.0 (mark_moves up (next_rows j xs ys)) walk.1.1 marks) each.1 walk.1.2 net.2 in
    let fewer = later_within (keys_of_all js) (next_rows j xs ys) (marked_pairs j.keys xs ys) yss (passing_within j.passes (marked_pairs j.keys xs ys)) in
    (omega (arith, counted, here, rest.0, fewer), rest.1)
marked_walk up (j ∷ js) ks us [] xs yss ms nss ps out keeps bx by mx each walk net = absurd keeps
marked_walk up (j ∷ js) [] us (vs ∷ vss) xs yss ms nss ps out keeps bx by mx each walk net = absurd keeps
marked_walk up (j ∷ js) (k ∷ ks) us (vs ∷ vss) xs [] ms nss ps out keeps bx by mx each walk net = absurd by
marked_walk up (j ∷ js) (k ∷ ks) us (vs ∷ vss) xs (ys ∷ yss) ms [] ps out keeps bx by mx each walk net = absurd each
marked_walk up (j ∷ js) (k ∷ ks) us (vs ∷ vss) xs (ys ∷ yss) ms (ns ∷ nss) [] out keeps bx by mx each walk net = absurd walk

-- the last stage has no more marked members than all together
pub last_few : (js : List Joint) (xs : Marks) (yss : List Marks) → count_marked (last_rows js xs yss) ≤ count_marked xs + later_rows (keys_of_all js) xs yss
last_few [] xs yss = omega arith
last_few (j ∷ js) xs [] = omega arith
last_few (j ∷ js) xs (ys ∷ yss) =
    let within = passing_within j.passes (marked_pairs j.keys xs ys) in
    omega (arith, last_few js (next_rows j xs ys) yss, within (λ (x : Marked Text). cond x.1 1 0), later_within (keys_of_all js) (next_rows j xs ys) (marked_pairs j.keys xs ys) yss within)

count_cells : (xs : Marks) → length (cells_of marked xs) ≡ count_marked xs
count_cells [] = refl
count_cells (x ∷ xs) = one x.1 (count_cells xs)
  where
    one : (b : Bool) → length (cells_of marked xs) ≡ count_marked xs → length (map (λ (x : Marked Text). x.0) (cond b (x ∷ filter (λ (x : Marked Text). x.1) xs) (filter (λ (x : Marked Text). x.1) xs))) ≡ cond b 1 0 + count_marked xs
    one true e = omega arith
    one false e = omega arith

-- what comes out in net are no more moves than marked members of the last stage
pub out_few : (up : Bool) (out : List Signed) (xs : Marks) → IsNet out → SameNet out (mark_moves up xs) → length out ≤ count_marked xs
out_few up out xs net same = omega (arith, fewest out (mark_moves up xs) net same, length-map {B = Signed} (cells_of marked xs) (λ row. record { row = row; up = up }), count_cells xs)
