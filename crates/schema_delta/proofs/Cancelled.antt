-- Rows that are kept where no other equals them.
use Rattle.std.proofs.Common.{◌≡◌, ◌⊎◌, inl, inr, ℕ, zero, suc, ◌+◌, ◌-◌, ◌<◌, List, [], ◌∷◌, ◌++◌, Bool, true, false, cond, ◌||◌, refl, arith, ap, sym, ◌∙◌, subst}
use Rattle.std.specs.List.{list_any}
use Rattle.ss_text.specs.Texts.{Row, row_eq}
use Rattle.row_links.specs.Live.{without_first}
use Rattle.row_links.specs.Chained.{Placed}
use Rattle.operator_law.specs.Bags.{weigh, is}
use Rattle.operator_law.proofs.Weights.{weigh-push}
use Rattle.operator_law.proofs.Counts.{row_eq-Decides}
use Rattle.join_delta.specs.Walks.{rows_of}
use Rattle.join_delta.proofs.Moved.{weigh_taken}
use Rattle.schema_delta.specs.Cancelled.{Apart}

is_same : (r x : Row) → 0 < is r x → r ≡ x
is_same r x h = one (row_eq r x) refl h
  where
    one : (b : Bool) → row_eq r x ≡ b → 0 < cond b 1 0 → r ≡ x
    one true e h = (row_eq-Decides r x).0 e
    one false e h = absurd (omega (arith, h))

pub is_self : (r : Row) → is r r ≡ 1
is_self r = rw ((row_eq-Decides r r).1 refl) refl

-- where no row equals another, none weighs anything
none_like : (row : Row) (live : Placed) → list_any (λ e. row_eq e.1 row) live ≡ false → weigh (is row) (rows_of live) ≡ 0
none_like row [] e = refl
none_like row (x ∷ live) e = one (row_eq row x.1) refl (row_eq x.1 row) refl e (none_like row live)
  where
    one : (b : Bool) → row_eq row x.1 ≡ b → (a : Bool) → row_eq x.1 row ≡ a → (a || list_any (λ e. row_eq e.1 row) live) ≡ false → (list_any (λ e. row_eq e.1 row) live ≡ false → weigh (is row) (rows_of live) ≡ 0) → cond b 1 0 + weigh (is row) (rows_of live) ≡ 0
    one b same true here e rest = absurd (cc)
    one false same false here e rest = omega (arith, rest e)
    one true same false here e rest =
        let both : row ≡ x.1 = (row_eq-Decides row x.1).0 same in
        let back : row_eq x.1 row ≡ true = (row_eq-Decides x.1 row).1 (sym both) in
        absurd (cc)

-- and none is taken
none_gone : (row : Row) (live : Placed) → list_any (λ e. row_eq e.1 row) live ≡ false → without_first row live ≡ live
none_gone row [] e = refl
none_gone row (x ∷ live) e = one (row_eq x.1 row) e (none_gone row live)
  where
    one : (a : Bool) → (a || list_any (λ e. row_eq e.1 row) live) ≡ false → (list_any (λ e. row_eq e.1 row) live ≡ false → without_first row live ≡ live) → cond a live (x ∷ without_first row live) ≡ x ∷ live
    one true e rest = absurd (cc)
    one false e rest = ap (λ (es : Placed). x ∷ es) (rest e)

either : (n m : ℕ) → 0 < n + m → (0 < n) ⊎ (0 < m)
either zero m h = inr (omega (arith, h))
either (suc n) m h = inl (omega arith)

module _ (row : Row) (kept : List Row) (live : Placed) where
  -- one of the others goes
  pub taken_all : (now : Placed) → now ≡ without_first row live → list_any (λ e. row_eq e.1 row) live ≡ true → (f : Row → ℕ) → weigh f kept + weigh f (rows_of live) ≡ weigh f kept + f row + weigh f (rows_of now)
  taken_all now is there f = omega (arith, weigh_taken f row live there, ap (λ es. weigh f (rows_of es)) is)

  pub taken_apart : (now : Placed) → now ≡ without_first row live → list_any (λ e. row_eq e.1 row) live ≡ true → Apart kept (rows_of live) → Apart kept (rows_of now)
  taken_apart now gone there apart r some = omega (arith, apart r some, taken_all now gone there (is r))

  -- the row is kept
  module _ (now : List Row) (left : Placed) (gone : left ≡ without_first row live) (none : list_any (λ e. row_eq e.1 row) live ≡ false) (push : now ≡ kept ++ row ∷ []) where
    stays : left ≡ live
    stays = gone ∙ none_gone row live none

    pub kept_all : (f : Row → ℕ) → weigh f now + weigh f (rows_of live) ≡ weigh f kept + f row + weigh f (rows_of left)
    kept_all f = omega (arith, weigh-push f kept row, ap (weigh f) push, ap (λ es. weigh f (rows_of es)) stays)

    still_apart : Apart kept (rows_of live) → Apart now (rows_of live)
    still_apart apart r some =
        let more : 0 < weigh (is r) kept + is r row = omega (arith, some, weigh-push (is r) kept row, ap (weigh (is r)) push) in
        by (either (weigh (is r) kept) (is r row) more)
      where
        by : (0 < weigh (is r) kept) ⊎ (0 < is r row) → weigh (is r) (rows_of live) ≡ 0
        by (inl h) = apart r h
        by (inr h) = subst (λ (x : Row). weigh (is x) (rows_of live) ≡ 0) (sym (is_same r row h)) (none_like row live none)

    pub kept_apart : Apart kept (rows_of live) → Apart now (rows_of left)
    kept_apart apart = subst (λ (es : Placed). Apart now (rows_of es)) (sym stays) (still_apart apart)

-- after the last row each is kept as often as it is there more often than among the others
pub left_over : (kept rows others live : List Row) → ((r : Row) → weigh (is r) kept + weigh (is r) others ≡ weigh (is r) rows + weigh (is r) live) → Apart kept live → (r : Row) → weigh (is r) kept ≡ weigh (is r) rows - weigh (is r) others
left_over kept rows others live all apart r = one (weigh (is r) kept) refl
  where
    one : (n : ℕ) → weigh (is r) kept ≡ n → weigh (is r) kept ≡ weigh (is r) rows - weigh (is r) others
    one zero e = omega (arith, all r, e)
    one (suc n) e = omega (arith, all r, e, apart r (omega (arith, e)))
