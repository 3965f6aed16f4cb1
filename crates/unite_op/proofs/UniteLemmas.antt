-- How the one that bears the names moves the sum.
use Rattle.std.proofs.Common.{◌≡◌, ℕ, ◌+◌, ◌<◌, List, [], ◌∷◌, ◌++◌, Bool, true, false, cond, refl, arith, sym, ◌∙◌, Some, None}
use Rattle.ss_text.specs.Texts.{Row, row_eq}
use Rattle.operator_law.specs.declared.delta.Signed.{Signed}
use Rattle.operator_law.specs.Bags.{weigh, is, signed, all_signed, MovesBag}
use Rattle.operator_law.proofs.Counts.{row_eq-Decides}
use Rattle.operator_law.proofs.Weights.{weigh-append, weigh-map, weigh-flat_map}
use Rattle.unite_op.specs.declared.named.Named.{Named}
use Rattle.unite_op.specs.NamedThings.{united, rows_behind, moves_behind, Stand, bearer, OneBears}

-- a row counts once for an equal one
one : (r s : Row) → s ≡ r → is r s ≡ 1
one r s e = rw ((row_eq-Decides r s).1 (sym e)) refl

module _ {S T : Type 0} (stands : S → T → Type 0) (names : Row) (x : Named T) (same : x.names ≡ names) where
  -- one of the inputs bears the names of one of the things
  bears : (inputs : List (Named S)) (front back : List (Named T)) → Stand stands inputs (front ++ x ∷ back) → 0 < weigh (λ (i : Named S). is names i.names) inputs
  bears [] [] back h = absurd h
  bears [] (z ∷ front) back h = absurd h
  bears (i ∷ inputs) [] back h = omega (arith, one names i.names (h.0 ∙ same))
  bears (i ∷ inputs) (z ∷ front) back h = omega (arith, bears inputs front back h.2)

  -- and the first that bears them is the one that stands for it
  pub stands_there : (inputs : List (Named S)) (front back : List (Named T)) → Stand stands inputs (front ++ x ∷ back) → OneBears names inputs → (n : Named S) × (bearer names inputs ≡ Some n) × stands n.value x.value
  stands_there [] [] back h once = absurd h
  stands_there [] (z ∷ front) back h once = absurd h
  stands_there (i ∷ inputs) [] back h once = (i, rw ((row_eq-Decides names i.names).1 (sym (h.0 ∙ same))) refl, h.1)
  stands_there (i ∷ inputs) (z ∷ front) back h once =
      elim (row_eq names i.names) as (λ b. row_eq names i.names ≡ b → (n : Named S) × (cond b (Some i) (bearer names inputs) ≡ Some n) × stands n.value x.value) [
        | true ↦ λ e.
            let here : is names i.names ≡ 1 = rw e refl in
            absurd (omega (arith, here, once, bears inputs front back h.2))
        | false ↦ λ e.
            let none : ◌≡◌ {A = ℕ} (is names i.names) 0 = rw e refl in
            stands_there inputs front back h.2 (omega (arith, none, once))
      ] refl

-- what rows behind names weigh
weigh-behind : (f : Row → ℕ) (names : Row) (rows : List Row) → weigh f (rows_behind names rows) ≡ weigh (λ row. f (names ++ row)) rows
weigh-behind f names rows = weigh-map f (λ row. names ++ row) rows

-- moves behind names move the rows behind them, and all other rows stay
pub moves_united : {T : Type 0} (value : T → List Row) (names : Row) (before after : T) (front back : List (Named T)) (ms : List Signed) → MovesBag (value before) ms (value after) → MovesBag (united value (front ++ record { names = names; value = before } ∷ back)) (moves_behind names ms) (united value (front ++ record { names = names; value = after } ∷ back))
moves_united {T} value names before after front back ms h f =
    let bearing : T → Named T = λ t. record { names = names; value = t } in
    let part : Named T → ℕ = λ x. weigh f (rows_behind x.names (value x.value)) in
    omega (
      arith,
      weigh-flat_map f (λ (x : Named T). rows_behind x.names (value x.value)) (front ++ bearing before ∷ back),
      weigh-flat_map f (λ (x : Named T). rows_behind x.names (value x.value)) (front ++ bearing after ∷ back),
      weigh-append part front (bearing before ∷ back),
      weigh-append part front (bearing after ∷ back),
      weigh-behind f names (value before),
      weigh-behind f names (value after),
      weigh-map (λ (m : Signed). cond m.up (f m.row) 0) (λ (m : Signed). signed m.up (names ++ m.row)) ms,
      weigh-map (λ (m : Signed). cond m.up 0 (f m.row)) (λ (m : Signed). signed m.up (names ++ m.row)) ms,
      h (λ row. f (names ++ row)),
    )

-- one that bears them is found
pub someone : {T : Type 0} (names : Row) (xs : List (Named T)) → OneBears names xs → bearer names xs ≡ None → ⊥
someone names [] once h = absurd (omega (arith, once))
someone names (x ∷ xs) once h =
    elim (row_eq names x.names) as (λ b. row_eq names x.names ≡ b → cond b (Some x) (bearer names xs) ≡ None → ⊥) [
      | true ↦ λ e k. absurd (cc)
      | false ↦ λ e k.
          let none : ◌≡◌ {A = ℕ} (is names x.names) 0 = rw e refl in
          someone names xs (omega (arith, none, once)) k
    ] refl h

-- moves behind names move the rows behind them
pub moves_rows_behind : (names : Row) (xs ys : List Row) (ms : List Signed) → MovesBag xs ms ys → MovesBag (rows_behind names xs) (moves_behind names ms) (rows_behind names ys)
moves_rows_behind names xs ys ms h f =
    omega (
      arith,
      weigh-behind f names xs,
      weigh-behind f names ys,
      weigh-map (λ (m : Signed). cond m.up (f m.row) 0) (λ (m : Signed). signed m.up (names ++ m.row)) ms,
      weigh-map (λ (m : Signed). cond m.up 0 (f m.row)) (λ (m : Signed). signed m.up (names ++ m.row)) ms,
      h (λ row. f (names ++ row)),
    )

-- rows that all come or go, behind names
pub signed_behind : (up : Bool) (names : Row) (xs : List Row) → moves_behind names (all_signed up xs) ≡ all_signed up (rows_behind names xs)
signed_behind up names [] = refl
signed_behind up names (x ∷ xs) = rw (signed_behind up names xs) refl
