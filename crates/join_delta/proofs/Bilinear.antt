-- A join is linear in each of its sides.
use Rattle.std.proofs.Common.{◌≡◌, ℕ, ◌+◌, List, [], ◌∷◌, ◌++◌, Bool, true, false, cond, not, filter, map, refl, arith, ap, sym, ◌∙◌}
use Rattle.std.specs.List.{flat_map}
use Rattle.ss_text.specs.Texts.{Row}
use Rattle.operator_law.specs.Bags.{weigh, come, go, MovesBag, SameBag}
use Rattle.operator_law.specs.declared.delta.Signed.{Signed}
use Rattle.operator_law.proofs.Weights.{weigh-append, weigh-map, weigh-filter, weigh-flat_map, weigh-same, weigh-plus, weigh-none}
use Rattle.join_delta.specs.Joined.{PairTest, joined, with_right, with_left, signs, with_moves, joined_moves}

-- two sums in either order
pub weigh-swap : {X Y : Type 0} (f : X → Y → ℕ) (xs : List X) (ys : List Y) → weigh (λ x. weigh (f x) ys) xs ≡ weigh (λ y. weigh (λ x. f x y) xs) ys
weigh-swap f [] ys = sym (weigh-none ys)
weigh-swap f (x ∷ xs) ys = omega (arith, weigh-swap f xs ys, weigh-plus (f x) (λ y. weigh (λ x. f x y) xs) ys)

-- what a pair weighs in the join
abbrev weight : PairTest → (Row → ℕ) → Row → Row → ℕ
weight t f x y = cond (t x y) (f (x ++ y)) 0

-- what signed rows weigh, where the sign picks how
abbrev signed : (Bool → ℕ → ℕ) → (Row → ℕ) → List Signed → ℕ
signed h f ms = weigh (λ m. h m.up (f m.row)) ms

-- a pick by the sign is linear
record Linear (h : Bool → ℕ → ℕ) : Type 0 where
  none : (b : Bool) → h b 0 ≡ 0
  plus : (b : Bool) (m n : ℕ) → h b (m + n) ≡ h b m + h b n

abbrev come_pick : Bool → ℕ → ℕ
come_pick b n = cond b n 0

abbrev go_pick : Bool → ℕ → ℕ
go_pick b n = cond b 0 n

come_linear : Linear come_pick
come_linear = record {
  none = elim [ true ↦ refl | false ↦ refl ];
  plus = elim [ true ↦ λ m n. refl | false ↦ λ m n. refl ];
}

go_linear : Linear go_pick
go_linear = record {
  none = elim [ true ↦ refl | false ↦ refl ];
  plus = elim [ true ↦ λ m n. refl | false ↦ λ m n. refl ];
}

weigh-joined : (t : PairTest) (f : Row → ℕ) (xs ys : List Row) → weigh f (joined t xs ys) ≡ weigh (λ x. weigh (weight t f x) ys) xs
weigh-joined t f xs ys =
    weigh-flat_map f (λ x. map (λ y. x ++ y) (filter (t x) ys)) xs
    ∙ weigh-same _ _ (λ x. weigh-map f (λ y. x ++ y) (filter (t x) ys) ∙ weigh-filter (λ y. f (x ++ y)) (t x) ys) xs

module _ (h : Bool → ℕ → ℕ) (linear : Linear h) where
  pick-weigh : {X : Type 0} (b : Bool) (g : X → ℕ) (xs : List X) → weigh (λ x. h b (g x)) xs ≡ h b (weigh g xs)
  pick-weigh b g [] = sym (linear.none b)
  pick-weigh b g (x ∷ xs) = omega (arith, pick-weigh b g xs, linear.plus b (g x) (weigh g xs))

  pick-cond : (p b : Bool) (n : ℕ) → cond p (h b n) 0 ≡ h b (cond p n 0)
  pick-cond p b n = elim p as (λ p. cond p (h b n) 0 ≡ h b (cond p n 0)) [ true ↦ refl | false ↦ sym (linear.none b) ]

  signed-plus : (f g : Row → ℕ) (ms : List Signed) → signed h (λ x. f x + g x) ms ≡ signed h f ms + signed h g ms
  signed-plus f g ms = weigh-same _ _ (λ m. linear.plus m.up (f m.row) (g m.row)) ms ∙ weigh-plus _ _ ms

  signed-right : (t : PairTest) (f : Row → ℕ) (ys : List Row) (ms : List Signed) → signed h f (flat_map (with_right t ys) ms) ≡ signed h (λ x. weigh (weight t f x) ys) ms
  signed-right t f ys ms =
      weigh-flat_map (λ m. h m.up (f m.row)) (with_right t ys) ms
      ∙ weigh-same _ _ (λ m.
      weigh-map (λ (k : Signed). h k.up (f k.row)) (λ y. record { row = m.row ++ y; up = m.up }) (filter (t m.row) ys)
      ∙ weigh-filter (λ y. h m.up (f (m.row ++ y))) (t m.row) ys
      ∙ weigh-same _ _ (λ y. pick-cond (t m.row y) m.up (f (m.row ++ y))) ys
      ∙ pick-weigh m.up (weight t f m.row) ys) ms

  signed-left : (t : PairTest) (f : Row → ℕ) (xs : List Row) (ns : List Signed) → signed h f (flat_map (with_left t xs) ns) ≡ weigh (λ x. signed h (weight t f x) ns) xs
  signed-left t f xs ns =
      weigh-flat_map (λ m. h m.up (f m.row)) (with_left t xs) ns
      ∙ weigh-same _ _ (λ n.
      weigh-map (λ (k : Signed). h k.up (f k.row)) (λ x. record { row = x ++ n.row; up = n.up }) (filter (λ x. t x n.row) xs)
      ∙ weigh-filter (λ x. h n.up (f (x ++ n.row))) (λ x. t x n.row) xs
      ∙ weigh-same _ _ (λ x. pick-cond (t x n.row) n.up (f (x ++ n.row))) xs) ns
      ∙ weigh-swap (λ n x. h n.up (weight t f x n.row)) ns xs

come-signs : (p b : Bool) (v : ℕ) → cond p (cond b v 0) 0 ≡ cond b (cond p v 0) 0
come-signs = elim [ true ↦ λ b v. refl | false ↦ elim [ true ↦ λ v. refl | false ↦ λ v. refl ] ]

go-signs : (p b : Bool) (v : ℕ) → cond p (cond b 0 v) 0 ≡ cond b 0 (cond p v 0)
go-signs = elim [ true ↦ λ b v. refl | false ↦ elim [ true ↦ λ v. refl | false ↦ λ v. refl ] ]

cond-not : (b : Bool) (m n : ℕ) → cond (not b) m n ≡ cond b n m
cond-not = elim [ true ↦ λ m n. refl | false ↦ λ m n. refl ]

come-one : (t : PairTest) (f : Row → ℕ) (ns : List Signed) (x : Row) (b : Bool) → weigh (λ n. cond (t x n.row) (cond (signs b n.up) (f (x ++ n.row)) 0) 0) ns ≡ cond b (come (weight t f x) ns) 0 + cond b 0 (go (weight t f x) ns)
come-one t f ns x = elim [
  | true ↦ omega (arith, weigh-same _ _ (λ (n : Signed). come-signs (t x n.row) n.up (f (x ++ n.row))) ns)
  | false ↦ omega (arith, weigh-same _ _ (λ (n : Signed). ap (λ k. cond (t x n.row) k 0) (cond-not n.up (f (x ++ n.row)) 0) ∙ go-signs (t x n.row) n.up (f (x ++ n.row))) ns)
]

go-one : (t : PairTest) (f : Row → ℕ) (ns : List Signed) (x : Row) (b : Bool) → weigh (λ n. cond (t x n.row) (cond (signs b n.up) 0 (f (x ++ n.row))) 0) ns ≡ cond b (go (weight t f x) ns) 0 + cond b 0 (come (weight t f x) ns)
go-one t f ns x = elim [
  | true ↦ omega (arith, weigh-same _ _ (λ (n : Signed). go-signs (t x n.row) n.up (f (x ++ n.row))) ns)
  | false ↦ omega (arith, weigh-same _ _ (λ (n : Signed). ap (λ k. cond (t x n.row) k 0) (cond-not n.up 0 (f (x ++ n.row))) ∙ come-signs (t x n.row) n.up (f (x ++ n.row))) ns)
]

come-moves : (t : PairTest) (f : Row → ℕ) (ms ns : List Signed) → come f (flat_map (with_moves t ns) ms) ≡ come (λ x. come (weight t f x) ns) ms + go (λ x. go (weight t f x) ns) ms
come-moves t f ms ns =
    weigh-flat_map (λ m. cond m.up (f m.row) 0) (with_moves t ns) ms
    ∙ weigh-same _ _ (λ m.
    weigh-map (λ (k : Signed). cond k.up (f k.row) 0) (λ n. record { row = m.row ++ n.row; up = signs m.up n.up }) (filter (λ n. t m.row n.row) ns)
    ∙ weigh-filter (λ (n : Signed). cond (signs m.up n.up) (f (m.row ++ n.row)) 0) (λ n. t m.row n.row) ns
    ∙ come-one t f ns m.row m.up) ms
    ∙ weigh-plus _ _ ms

go-moves : (t : PairTest) (f : Row → ℕ) (ms ns : List Signed) → go f (flat_map (with_moves t ns) ms) ≡ come (λ x. go (weight t f x) ns) ms + go (λ x. come (weight t f x) ns) ms
go-moves t f ms ns =
    weigh-flat_map (λ m. cond m.up 0 (f m.row)) (with_moves t ns) ms
    ∙ weigh-same _ _ (λ m.
    weigh-map (λ (k : Signed). cond k.up 0 (f k.row)) (λ n. record { row = m.row ++ n.row; up = signs m.up n.up }) (filter (λ n. t m.row n.row) ns)
    ∙ weigh-filter (λ (n : Signed). cond (signs m.up n.up) 0 (f (m.row ++ n.row))) (λ n. t m.row n.row) ns
    ∙ go-one t f ns m.row m.up) ms
    ∙ weigh-plus _ _ ms

-- the three parts of the change move the join
pub moves_joined : (t : PairTest) (xs ys xs' ys' : List Row) (ms ns : List Signed) → MovesBag xs ms xs' → MovesBag ys ns ys' → MovesBag (joined t xs ys) (joined_moves t xs ys ms ns) (joined t xs' ys')
moves_joined t xs ys xs' ys' ms ns hx hy f =
    let F : Row → Row → ℕ = weight t f in
    let u : Row → ℕ = λ x. weigh (F x) ys + come (F x) ns in
    omega (
      arith,
      weigh-joined t f xs ys,
      weigh-joined t f xs' ys',
      weigh-append (λ (m : Signed). cond m.up (f m.row) 0) (flat_map (with_right t ys) ms ++ flat_map (with_left t xs) ns) (flat_map (with_moves t ns) ms),
      weigh-append (λ (m : Signed). cond m.up (f m.row) 0) (flat_map (with_right t ys) ms) (flat_map (with_left t xs) ns),
      weigh-append (λ (m : Signed). cond m.up 0 (f m.row)) (flat_map (with_right t ys) ms ++ flat_map (with_left t xs) ns) (flat_map (with_moves t ns) ms),
      weigh-append (λ (m : Signed). cond m.up 0 (f m.row)) (flat_map (with_right t ys) ms) (flat_map (with_left t xs) ns),
      signed-right come_pick come_linear t f ys ms,
      signed-right go_pick go_linear t f ys ms,
      signed-left come_pick come_linear t f xs ns,
      signed-left go_pick go_linear t f xs ns,
      come-moves t f ms ns,
      go-moves t f ms ns,
      hx u,
      hx (λ x. go (F x) ns),
      weigh-plus (λ x. weigh (F x) ys) (λ x. come (F x) ns) xs,
      weigh-same u (λ x. weigh (F x) ys' + go (F x) ns) (λ x. hy (F x)) xs',
      weigh-plus (λ x. weigh (F x) ys') (λ x. go (F x) ns) xs',
      signed-plus come_pick come_linear (λ x. weigh (F x) ys) (λ x. come (F x) ns) ms,
      signed-plus go_pick go_linear (λ x. weigh (F x) ys) (λ x. come (F x) ns) ms,
    )

pub same_joined : (t : PairTest) (xs ys ls rs : List Row) → SameBag xs ls → SameBag ys rs → SameBag (joined t xs ys) (joined t ls rs)
same_joined t xs ys ls rs hx hy f =
    weigh-joined t f xs ys
    ∙ hx (λ x. weigh (weight t f x) ys)
    ∙ weigh-same _ _ (λ x. hy (weight t f x)) ls
    ∙ sym (weigh-joined t f ls rs)

-- the join of any rows that are the kept ones, in whatever order, is moved by the three parts over the kept rows
pub moves_joined_kept : (t : PairTest) (xs ys ls rs xs' ys' : List Row) (ms ns : List Signed) → SameBag xs ls → SameBag ys rs → MovesBag xs ms xs' → MovesBag ys ns ys' → MovesBag (joined t xs ys) (joined_moves t ls rs ms ns) (joined t xs' ys')
moves_joined_kept t xs ys ls rs xs' ys' ms ns hx hy mx my f =
    let mx' : MovesBag ls ms xs' = λ f. omega (arith, hx f, mx f) in
    let my' : MovesBag rs ns ys' = λ f. omega (arith, hy f, my f) in
    omega (arith, same_joined t xs ys ls rs hx hy f, moves_joined t ls rs xs' ys' ms ns mx' my' f)

-- and by the same moves in another order
pub moves_joined_same : (t : PairTest) (xs ys ls rs xs' ys' : List Row) (ms ns ds : List Signed) → SameBag ds (joined_moves t ls rs ms ns) → SameBag xs ls → SameBag ys rs → MovesBag xs ms xs' → MovesBag ys ns ys' → MovesBag (joined t xs ys) ds (joined t xs' ys')
moves_joined_same t xs ys ls rs xs' ys' ms ns ds same hx hy mx my f =
    omega (arith, same (λ (m : Signed). cond m.up (f m.row) 0), same (λ (m : Signed). cond m.up 0 (f m.row)), moves_joined_kept t xs ys ls rs xs' ys' ms ns hx hy mx my f)
