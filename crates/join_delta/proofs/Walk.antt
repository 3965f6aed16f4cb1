-- A walk over the live rows that pass a test.
use Rattle.std.proofs.Common.{◌≡◌, ◌≢◌, ℕ, ◌+◌, ◌≤◌, List, [], ◌∷◌, ◌++◌, Bool, true, false, cond, Option, None, Some, filter, map, length, refl, sym, ap, ◌∙◌, subst, arith, append_assoc, append-nil, suc}
use Rattle.std.proofs.lemmas.Bool.{eq-eqb, ne_eqb}
use Rattle.ss_text.specs.Texts.{Row, Text}
use Rattle.row_links.specs.Links.{IsOnce, IsAbsent}
use Rattle.row_links.specs.Chained.{Placed, places}
use Rattle.row_links.specs.Live.{at_place, following, first_place, rows_beside}
use Rattle.row_links.specs.Parts.{cells_at, same_cells}
use Rattle.row_links.proofs.Finding.{cells_equal}
use Rattle.row_links.proofs.Seen.{split_at, following_split}
use Rattle.join_delta.specs.Walks.{rows_of, rest_from}

absent_head : {X : Type 0} (p place : ℕ) (row : X) (xs ys : List (ℕ × X)) → IsAbsent p (places (xs ++ (place, row) ∷ ys)) → p ≢ place
absent_head p place row [] ys h = h.0
absent_head p place row (x ∷ xs) ys h = absent_head p place row xs ys h.1

pub at_place_split : {X : Type 0} (place : ℕ) (row : X) (xs ys : List (ℕ × X)) → IsOnce (places (xs ++ (place, row) ∷ ys)) → at_place place (xs ++ (place, row) ∷ ys) ≡ Some row
at_place_split place row [] ys h = ap (λ (b : Bool). cond b (Some row) (at_place place ys)) (eq-eqb place place refl)
at_place_split place row (x ∷ xs) ys h =
    ap (λ (b : Bool). cond b (Some x.1) (at_place place (xs ++ (place, row) ∷ ys))) (ne_eqb x.0 place (absent_head x.0 place row xs ys h.0))
    ∙ at_place_split place row xs ys h.1

pub rows_filter : (test : Row → Bool) (es : Placed) → rows_of (filter (λ e. test e.1) es) ≡ filter test (rows_of es)
rows_filter test [] = refl
rows_filter test (e ∷ es) = elim (test e.1) as (λ b. rows_of (cond b (e ∷ filter (λ e. test e.1) es) (filter (λ e. test e.1) es)) ≡ cond b (e.1 ∷ filter test (rows_of es)) (filter test (rows_of es))) [
  | true ↦ ap (λ (rs : List Row). e.1 ∷ rs) (rows_filter test es)
  | false ↦ rows_filter test es
]

pub length-rows_of : (es : Placed) → length (rows_of es) ≡ length es
length-rows_of [] = refl
length-rows_of (e ∷ es) = ap suc (length-rows_of es)

-- a place of the walk
pub record IsAt (test : Row → Bool) (live : Placed) (place : ℕ) : Type 0 where
  pub row : Row
  pub there : at_place place live ≡ Some row
  pub passes : test row ≡ true

abbrev pub IsWalking : (Row → Bool) → Placed → Option ℕ → Type 0
IsWalking test live at = (p : ℕ) → at ≡ Some p → IsAt test live p

module _ (test : Row → Bool) (live : Placed) (once : IsOnce (places live)) where
  -- what is left from the first that passes among the last rows
  record IsTail (es : Placed) : Type 0 where
    rest : rest_from test live (first_place (filter (λ e. test e.1) es)) ≡ filter (λ e. test e.1) es
    walks : IsWalking test live (first_place (filter (λ e. test e.1) es))

  tail : (xs es : Placed) → live ≡ xs ++ es → IsTail es
  tail xs [] split = record { rest = refl; walks = λ p e. cc }
  tail xs (e ∷ es) split = by (test e.1) refl (tail (xs ++ e ∷ []) es (split ∙ sym (append_assoc xs (e ∷ []) es)))
    where
      once_here : IsOnce (places (xs ++ e ∷ es))
      once_here = subst (λ (ys : Placed). IsOnce (places ys)) split once

      there : at_place e.0 live ≡ Some e.1
      there = ap (at_place e.0) split ∙ at_place_split e.0 e.1 xs es once_here

      behind : following e.0 live ≡ es
      behind = ap (following e.0) split ∙ following_split e.0 e.1 xs es once_here

      by : (b : Bool) → test e.1 ≡ b → IsTail es → IsTail (e ∷ es)
      by true t later =
          let is : filter (λ e. test e.1) (e ∷ es) ≡ e ∷ filter (λ e. test e.1) es = ap (λ (b : Bool). cond b (e ∷ filter (λ e. test e.1) es) (filter (λ e. test e.1) es)) t in
          let own : rest_from test live (Some e.0) ≡ e ∷ filter (λ e. test e.1) es =
          ap (λ (o : Option Row). elim o as (λ _. Placed) [ None ↦ [] | Some row ↦ (e.0, row) ∷ filter (λ e. test e.1) (following e.0 live) ]) there
          ∙ ap (λ ys. e ∷ filter (λ e. test e.1) ys) behind in
          record {
            rest = ap (λ ys. rest_from test live (first_place ys)) is ∙ own ∙ sym is;
            walks = λ p at.
                let here : e.0 ≡ p = (let f : Some e.0 ≡ Some p = sym (ap first_place is) ∙ at in cc) in
                record { row = e.1; there = subst (λ (q : ℕ). at_place q live ≡ Some e.1) here there; passes = t };
          }
      by false t later =
          let is : filter (λ e. test e.1) (e ∷ es) ≡ filter (λ e. test e.1) es = ap (λ (b : Bool). cond b (e ∷ filter (λ e. test e.1) es) (filter (λ e. test e.1) es)) t in
          record {
            rest = ap (λ ys. rest_from test live (first_place ys)) is ∙ later.rest ∙ sym is;
            walks = λ p at. later.walks p (sym (ap first_place is) ∙ at);
          }

  -- the walk begins
  pub begins : rest_from test live (first_place (filter (λ e. test e.1) live)) ≡ filter (λ e. test e.1) live
  begins = (tail [] live refl).rest

  pub begins_at : IsWalking test live (first_place (filter (λ e. test e.1) live))
  begins_at = (tail [] live refl).walks

  -- the walk goes on
  behind_tail : (p : ℕ) (row : Row) → at_place p live ≡ Some row → IsTail (following p live)
  behind_tail p row there =
      let s = split_at live p row there in
      let behind : following p live ≡ s.later = ap (following p) s.is_split ∙ following_split p row s.earlier s.later (subst (λ (ys : Placed). IsOnce (places ys)) s.is_split once) in
      subst IsTail (sym behind) (tail (s.earlier ++ (p, row) ∷ []) s.later (s.is_split ∙ sym (append_assoc s.earlier ((p, row) ∷ []) s.later)))

  pub goes_on : (p : ℕ) (row : Row) → at_place p live ≡ Some row → rest_from test live (Some p) ≡ (p, row) ∷ rest_from test live (first_place (filter (λ e. test e.1) (following p live)))
  goes_on p row there =
      ap (λ (o : Option Row). elim o as (λ _. Placed) [ None ↦ [] | Some row ↦ (p, row) ∷ filter (λ e. test e.1) (following p live) ]) there
      ∙ ap (λ ys. (p, row) ∷ ys) (sym (behind_tail p row there).rest)

  pub goes_on_at : (p : ℕ) (row : Row) → at_place p live ≡ Some row → IsWalking test live (first_place (filter (λ e. test e.1) (following p live)))
  goes_on_at p row there = (behind_tail p row there).walks

module _ (test : Row → Bool) (live : Placed) where
  pub walk_left : (p : ℕ) (row : Row) (next : Option ℕ) → IsOnce (places live) → at_place p live ≡ Some row → next ≡ first_place (filter (λ e. test e.1) (following p live)) → rest_from test live (Some p) ≡ (p, row) ∷ rest_from test live next
  walk_left p row next once there e = goes_on test live once p row there ∙ ap (λ (o : Option ℕ). (p, row) ∷ rest_from test live o) (sym e)

module _ {X : Type 0} (test : Row → Bool) (live : Placed) (f : Row → X) (first : List X) where
  -- how far a walk has come: what it gave and what is left are all
  pub record IsWalk (out : List X) (at : Option ℕ) : Type 0 where
    pub pairs : out ++ map f (rows_of (rest_from test live at)) ≡ first ++ map f (rows_of (filter (λ e. test e.1) live))
    pub once : IsOnce (places live)
    pub walks : IsWalking test live at

  pub walk_begun : (at : Option ℕ) → IsOnce (places live) → at ≡ first_place (filter (λ e. test e.1) live) → IsWalk first at
  walk_begun at once e =
      record {
        pairs = ap (λ es. first ++ map f (rows_of es)) (ap (rest_from test live) e ∙ begins test live once);
        once = once;
        walks = subst (IsWalking test live) (sym e) (begins_at test live once);
      }

  pub walk_more : (out out' : List X) (p : ℕ) (row : Row) (next : Option ℕ) → IsWalk out (Some p) → at_place p live ≡ Some row → next ≡ first_place (filter (λ e. test e.1) (following p live)) → out ++ f row ∷ [] ≡ out' → IsWalk out' next
  walk_more out out' p row next w there e is =
      let left = walk_left test live p row next w.once there e in
      subst (λ (xs : List X). IsWalk xs next) is (record {
        pairs = append_assoc out (f row ∷ []) (map f (rows_of (rest_from test live next))) ∙ sym (ap (λ es. out ++ map f (rows_of es)) left) ∙ w.pairs;
        once = w.once;
        walks = subst (IsWalking test live) (sym e) (goes_on_at test live w.once p row there);
      })

  pub walk_ended : (out : List X) → IsWalk out None → out ≡ first ++ map f (filter test (rows_of live))
  walk_ended out w = sym (append-nil out) ∙ w.pairs ∙ ap (λ rs. first ++ map f rs) (rows_filter test live)

module _ (test : Row → Bool) (live : Placed) (start : ℕ) where
  -- what a walk has counted: each step left one row fewer
  pub record IsCounted (steps : ℕ) (at : Option ℕ) : Type 0 where
    pub rises : start ≤ steps
    pub count : steps + length (rest_from test live at) ≡ start + length (filter (λ e. test e.1) live)

  pub count_begun : (at : Option ℕ) → IsOnce (places live) → at ≡ first_place (filter (λ e. test e.1) live) → IsCounted start at
  count_begun at once e =
      record {
        rises = omega arith;
        count = ap (λ es. start + length es) (ap (rest_from test live) e ∙ begins test live once);
      }

  pub count_more : (steps steps' : ℕ) (p : ℕ) (row : Row) (next : Option ℕ) → IsCounted steps (Some p) → IsOnce (places live) → at_place p live ≡ Some row → next ≡ first_place (filter (λ e. test e.1) (following p live)) → steps' ≡ steps + 1 → IsCounted steps' next
  count_more steps steps' p row next w once there e is =
      record {
        rises = omega (arith, w.rises, is);
        count = (let c = w.count in let l = ap length (walk_left test live p row next once there e) in omega (arith, is));
      }

  pub count_within : (steps : ℕ) (at : Option ℕ) → IsCounted steps at → steps ≤ start + length (filter test (rows_of live))
  count_within steps at w = omega (arith, w.count, ap length (rows_filter test live), length-rows_of (filter (λ e. test e.1) live))

-- the rows with the same cells as one that passes
pub beside_is : (key positions : List ℕ) (sought row : Row) (es : Placed) → same_cells (cells_at key row) (cells_at positions sought) ≡ true → first_place (rows_beside key row es) ≡ first_place (filter (λ e. same_cells (cells_at key e.1) (cells_at positions sought)) es)
beside_is key positions sought row es h = ap (λ (cells : List (Option Text)). first_place (filter (λ e. same_cells (cells_at key e.1) cells) es)) (cells_equal (cells_at key row) (cells_at positions sought) h)
