-- A walk along a chain.
use Rattle.std.proofs.Common.{◌≡◌, ℕ, suc, ◌+◌, ◌-◌, ◌≤◌, ◌<◌, List, [], ◌∷◌, Bool, true, false, cond, Option, None, Some, filter, length, nat_lt, refl, sym, ap, ◌∙◌, subst, arith}
use Rattle.std.proofs.lemmas.Bool.Decides.{nat_tests}
use Rattle.ss_text.specs.Texts.{Row}
use Rattle.slab.specs.Slab.{Slab, get, slab_len}
use Rattle.row_links.specs.declared.link.Link.{Link}
use Rattle.row_links.specs.Links.{IsPath, first_or, after_at}
use Rattle.row_links.specs.Chained.{Placed, places}
use Rattle.row_links.specs.Live.{first_place, AreStored}

none_below : (n : ℕ) → nat_lt n 0 ≡ false
none_below n = grind (arith, nat_tests)

first_above : (n m : ℕ) → n ≡ 0 → nat_lt n (suc m) ≡ true
first_above n m e = grind (arith, nat_tests)

one_less : (n m : ℕ) → 0 < n → nat_lt (n - 1) m ≡ nat_lt n (suc m)
one_less n m some = grind (arith, nat_tests)

module _ (links : List Link) (rows : Slab Row) (mark : ℕ) (test : Row → Bool) (es : Placed) where
  -- what is left of a walk, whose first that passes the test is the first of all
  pub record IsLeft (at : Option ℕ) (turn : ℕ) : Type 0 where
    pub before : Option ℕ
    pub rest : Placed
    pub path : IsPath links mark before (places rest) None
    pub at_is : at ≡ first_or (places rest) None
    pub stored : AreStored rows rest
    pub few : length rest + turn ≤ slab_len rows
    pub same : first_place (filter (λ e. test e.1) rest) ≡ first_place (filter (λ e. test e.1) es)

  pub begun : (before : Option ℕ) (at : Option ℕ) → IsPath links mark before (places es) None → at ≡ first_or (places es) None → AreStored rows es → length es ≤ slab_len rows → IsLeft at 0
  begun before at path at_is stored few = record { before = before; rest = es; path = path; at_is = at_is; stored = stored; few = omega arith; same = refl }

  pub ended : (turn : ℕ) → IsLeft None turn → None ≡ first_place (filter (λ e. test e.1) es)
  ended turn l = by l.rest l.at_is l.same
    where
      by : (rest : Placed) → None ≡ first_or (places rest) None → first_place (filter (λ e. test e.1) rest) ≡ first_place (filter (λ e. test e.1) es) → None ≡ first_place (filter (λ e. test e.1) es)
      by [] at same = same
      by (e ∷ rest) at same = cc

  pub found : (place turn : ℕ) → ((row : Row) → get rows place ≡ Some row → test row ≡ true) → IsLeft (Some place) turn → Some place ≡ first_place (filter (λ e. test e.1) es)
  found place turn fits l = by l.rest l.at_is l.stored l.same
    where
      by : (rest : Placed) → Some place ≡ first_or (places rest) None → AreStored rows rest → first_place (filter (λ e. test e.1) rest) ≡ first_place (filter (λ e. test e.1) es) → Some place ≡ first_place (filter (λ e. test e.1) es)
      by [] at stored same = cc
      by (e ∷ rest) at stored same =
          let here : place ≡ e.0 = cc in
          let passes : test e.1 ≡ true = fits e.1 (subst (λ (p : ℕ). get rows p ≡ Some e.1) (sym here) stored.0) in
          at ∙ ap (λ (b : Bool). first_place (cond b (e ∷ filter (λ e. test e.1) rest) (filter (λ e. test e.1) rest))) (sym passes) ∙ same

  pub passed : (place turn : ℕ) → ((row : Row) → get rows place ≡ Some row → test row ≡ false) → IsLeft (Some place) turn → IsLeft (after_at links place) (turn + 1)
  passed place turn fails l = by l.rest l.path l.at_is l.stored l.few l.same
    where
      by : (rest : Placed) → IsPath links mark l.before (places rest) None → Some place ≡ first_or (places rest) None → AreStored rows rest → length rest + turn ≤ slab_len rows → first_place (filter (λ e. test e.1) rest) ≡ first_place (filter (λ e. test e.1) es) → IsLeft (after_at links place) (turn + 1)
      by [] path at stored few same = cc
      by (e ∷ rest) path at stored few same =
          let here : e.0 ≡ place = cc in
          let misses : test e.1 ≡ false = fails e.1 (subst (λ (p : ℕ). get rows p ≡ Some e.1) here stored.0) in
          record {
            before = Some e.0;
            rest = rest;
            path = path.1;
            at_is = ap (after_at links) (sym here) ∙ ap (λ (o : Option Link). elim o as (λ _. Option ℕ) [ None ↦ None | Some l ↦ l.after ]) path.0;
            stored = stored.1;
            few = omega arith;
            same = ap (λ (b : Bool). first_place (cond b (e ∷ filter (λ e. test e.1) rest) (filter (λ e. test e.1) rest))) (sym misses) ∙ same;
          }

  -- when as many turns were made as there are rows, nothing is left
  pub all_passed : (at : Option ℕ) (turn : ℕ) → slab_len rows ≤ turn → IsLeft at turn → None ≡ first_place (filter (λ e. test e.1) es)
  all_passed at turn h l = by l.rest l.few l.same
    where
      by : (rest : Placed) → length rest + turn ≤ slab_len rows → first_place (filter (λ e. test e.1) rest) ≡ first_place (filter (λ e. test e.1) es) → None ≡ first_place (filter (λ e. test e.1) es)
      by [] few same = same
      by (e ∷ rest) few same = absurd (omega arith)

  -- what is left of a walk along which rows are counted down: more than `left` pass of it just where more than `count` pass of all
  pub record IsCountedDown (count : ℕ) (at : Option ℕ) (turn left : ℕ) : Type 0 where
    pub before : Option ℕ
    pub rest : Placed
    pub path : IsPath links mark before (places rest) None
    pub at_is : at ≡ first_or (places rest) None
    pub stored : AreStored rows rest
    pub few : length rest + turn ≤ slab_len rows
    pub same : nat_lt left (length (filter (λ e. test e.1) rest)) ≡ nat_lt count (length (filter (λ e. test e.1) es))

  pub count_begun : (count : ℕ) (before : Option ℕ) (at : Option ℕ) → IsPath links mark before (places es) None → at ≡ first_or (places es) None → AreStored rows es → length es ≤ slab_len rows → IsCountedDown count at 0 count
  count_begun count before at path at_is stored few = record { before = before; rest = es; path = path; at_is = at_is; stored = stored; few = omega arith; same = refl }

  pub count_ended : (count turn left : ℕ) → IsCountedDown count None turn left → false ≡ nat_lt count (length (filter (λ e. test e.1) es))
  count_ended count turn left l = by l.rest l.at_is l.same
    where
      by : (rest : Placed) → None ≡ first_or (places rest) None → nat_lt left (length (filter (λ e. test e.1) rest)) ≡ nat_lt count (length (filter (λ e. test e.1) es)) → false ≡ nat_lt count (length (filter (λ e. test e.1) es))
      by [] at same = sym (none_below left) ∙ same
      by (e ∷ rest) at same = cc

  -- one more place, which passes the test
  module _ (count place turn left : ℕ) (l : IsCountedDown count (Some place) turn left) where
    pub count_told : ((row : Row) → get rows place ≡ Some row → test row ≡ true) → left ≡ 0 → true ≡ nat_lt count (length (filter (λ e. test e.1) es))
    count_told fits last = by l.rest l.at_is l.stored l.same
      where
        by : (rest : Placed) → Some place ≡ first_or (places rest) None → AreStored rows rest → nat_lt left (length (filter (λ e. test e.1) rest)) ≡ nat_lt count (length (filter (λ e. test e.1) es)) → true ≡ nat_lt count (length (filter (λ e. test e.1) es))
        by [] at stored same = cc
        by (e ∷ rest) at stored same =
            let here : e.0 ≡ place = cc in
            let passes : test e.1 ≡ true = fits e.1 (subst (λ (p : ℕ). get rows p ≡ Some e.1) here stored.0) in
            sym (first_above left (length (filter (λ e. test e.1) rest)) last)
            ∙ ap (λ (b : Bool). nat_lt left (length (cond b (e ∷ filter (λ e. test e.1) rest) (filter (λ e. test e.1) rest)))) (sym passes)
            ∙ same

    -- or it does not
    pub count_passed : (passes : Bool) → ((row : Row) → get rows place ≡ Some row → test row ≡ passes) → (passes ≡ true → 0 < left) → IsCountedDown count (after_at links place) (turn + 1) (cond passes (left - 1) left)
    count_passed passes fits some = by l.rest l.path l.at_is l.stored l.few l.same
      where
        by : (rest : Placed) → IsPath links mark l.before (places rest) None → Some place ≡ first_or (places rest) None → AreStored rows rest → length rest + turn ≤ slab_len rows → nat_lt left (length (filter (λ e. test e.1) rest)) ≡ nat_lt count (length (filter (λ e. test e.1) es))
            → IsCountedDown count (after_at links place) (turn + 1) (cond passes (left - 1) left)
        by [] path at stored few same = cc
        by (e ∷ rest) path at stored few same =
            let here : e.0 ≡ place = cc in
            let tells : test e.1 ≡ passes = fits e.1 (subst (λ (p : ℕ). get rows p ≡ Some e.1) here stored.0) in
            record {
              before = Some e.0;
              rest = rest;
              path = path.1;
              at_is = ap (after_at links) (sym here) ∙ ap (λ (o : Option Link). elim o as (λ _. Option ℕ) [ None ↦ None | Some l ↦ l.after ]) path.0;
              stored = stored.1;
              few = omega arith;
              same =
                  counts passes e (filter (λ e. test e.1) rest) some
                  ∙ ap (λ (b : Bool). nat_lt left (length (cond b (e ∷ filter (λ e. test e.1) rest) (filter (λ e. test e.1) rest)))) (sym tells)
                  ∙ same;
            }
          where
            counts : (b : Bool) (e : ℕ × Row) (fs : Placed) → (b ≡ true → 0 < left) → nat_lt (cond b (left - 1) left) (length fs) ≡ nat_lt left (length (cond b (e ∷ fs) fs))
            counts true e fs some = one_less left (length fs) (some refl)
            counts false e fs some = refl

  pub count_done : (count : ℕ) (at : Option ℕ) (turn left : ℕ) → slab_len rows ≤ turn → IsCountedDown count at turn left → false ≡ nat_lt count (length (filter (λ e. test e.1) es))
  count_done count at turn left h l = by l.rest l.few l.same
    where
      by : (rest : Placed) → length rest + turn ≤ slab_len rows → nat_lt left (length (filter (λ e. test e.1) rest)) ≡ nat_lt count (length (filter (λ e. test e.1) es)) → false ≡ nat_lt count (length (filter (λ e. test e.1) es))
      by [] few same = sym (none_below left) ∙ same
      by (e ∷ rest) few same = absurd (omega arith)
