-- An index that is made from the last row to the first, and a walk along one of its chains.
use Rattle.std.proofs.Common.{◌≡◌, ◌<◌, ◌≤◌, ◌+◌, ℕ, zero, suc, Bool, true, false, cond, List, [], ◌∷◌, ◌++◌, Option, Some, None, length, map, drop, nat_lt, refl, sym, ap, ◌∙◌, arith, append_assoc}
use Rattle.std.proofs.lemmas.Bool.{ltb-true, ltb-false}
use denote.Ref.{Bor}
use Rattle.std.specs.Prelude.{slice_get, option_map, get_or, slice_set}
use Rattle.std.proofs.lemmas.List.{length-map, length-set}
use Rattle.std.proofs.lemmas.Option.{slice_get-map, slice_get_within, get_or_from_slice_get}
use Rattle.schema_model.specs.Catalogue.{RelationValue}
use Rattle.view_meaning.specs.Elements.{cell_under}
use Rattle.indexmap.specs.IndexMap.{insert_entry}
use Rattle.ss_text.specs.Texts.{Text, Row, text_eq}
use Rattle.ss_text.proofs.KeyLemmas.{text_order, equal_is, equal_itself}
use Rattle.ss_text.proofs.GroupWalk.{one_left, none_left}
use Rattle.valuation_meaning.specs.Indexed.{cells_of, is_cell, places_of, first_of, head_of, IsIndexed, rest_of, HasText}

abbrev key_eq : Bor Text → Bor Text → Bool
key_eq a b = text_eq a.now b.now

-- ---- a head is put
pub head_put : (es : List (Bor Text × ℕ)) (k : Bor Text) (v : ℕ) (t : Text) → head_of (insert_entry key_eq es k v) t ≡ cond (text_eq t k.now) (Some v) (head_of es t)
head_put [] k v t = refl
head_put (e ∷ es) k v t = by_key (text_eq k.now e.0.now) refl (head_put es k v t)
  where
    twice : (b : Bool) → cond b (Some v) (head_of es t) ≡ cond b (Some v) (cond b (Some e.1) (head_of es t))
    twice true = refl
    twice false = refl

    differs : (b : Bool) → text_eq t k.now ≡ b → t ≡ e.0.now → text_eq k.now e.0.now ≡ false → b ≡ false
    differs false f is unlike = refl
    differs true f is unlike =
        let same : t ≡ k.now = equal_is text_order t k.now f in
        absurd (cc (rw (← same, ← is, equal_itself text_order t) at unlike))

    same_or_other : (b : Bool) → text_eq t e.0.now ≡ b → text_eq k.now e.0.now ≡ false → cond b (Some e.1) (cond (text_eq t k.now) (Some v) (head_of es t)) ≡ cond (text_eq t k.now) (Some v) (cond b (Some e.1) (head_of es t))
    same_or_other false at unlike = refl
    same_or_other true at unlike =
        let other : text_eq t k.now ≡ false = differs (text_eq t k.now) refl (equal_is text_order t e.0.now at) unlike in
        rw other refl

    by_key : (b : Bool) → text_eq k.now e.0.now ≡ b → head_of (insert_entry key_eq es k v) t ≡ cond (text_eq t k.now) (Some v) (head_of es t)
        → head_of (cond b ((e.0, v) ∷ es) (e ∷ insert_entry key_eq es k v)) t ≡ cond (text_eq t k.now) (Some v) (cond (text_eq t e.0.now) (Some e.1) (head_of es t))
    by_key true f rest =
        let is : k.now ≡ e.0.now = equal_is text_order k.now e.0.now f in
        rw is (twice (text_eq t e.0.now))
    by_key false f rest = ap (cond (text_eq t e.0.now) (Some e.1)) rest ∙ same_or_other (text_eq t e.0.now) refl f

-- ---- an index is begun
pub no_index : (cells : List (Option Text)) (next : List (Option ℕ)) (n : ℕ) → length next ≡ length cells → n ≡ length cells → IsIndexed cells [] next n
no_index cells next n long is = record {
  heads_are = λ t. rw (is, none_from cells) refl;
  next_are = λ i s at has. absurd (omega (arith, within cells i (Some s) has, at, is));
  len = long;
}
  where
    none_from : (cs : List (Option Text)) → drop (length cs) cs ≡ []
    none_from [] = refl
    none_from (c ∷ cs) = none_from cs

    within : (cs : List (Option Text)) (i : ℕ) (c : Option Text) → slice_get cs i ≡ Some c → i < length cs
    within [] i c e = absurd (cc)
    within (d ∷ cs) zero c e = omega arith
    within (d ∷ cs) (suc i) c e = omega (arith, within cs i c e)

here_or_later : {A : Type 0} (n i : ℕ) → n ≤ i → (i ≡ n → A) → (n + 1 ≤ i → A) → A
here_or_later {A = A} n i from here later = by_test (nat_lt n i) (λ h. ltb-true n i h) (λ h. ltb-false n i h)
  where
    by_test : (b : Bool) → (b ≡ true → n < i) → (b ≡ false → i ≤ n) → A
    by_test true less most = later (omega (arith, less refl))
    by_test false less most = here (omega (arith, most refl))

-- ---- one more row, before all others
module _ (cells : List (Option Text)) (heads : List (Bor Text × ℕ)) (next : List (Option ℕ)) (n : ℕ) (done : IsIndexed cells heads next (n + 1)) where
  more : (c : Option Text) → slice_get cells n ≡ Some c → drop n cells ≡ c ∷ drop (n + 1) cells
  more c at = one_left cells n c (sym at)

  pub no_cell : slice_get cells n ≡ Some None → IsIndexed cells heads next n
  no_cell at = record {
    heads_are = λ t. rw (more None at) (done.heads_are t);
    next_are = λ i s from has. by_place i s from has;
    len = done.len;
  }
    where
      by_place : (i : ℕ) (s : Text) → n ≤ i → slice_get cells i ≡ Some (Some s) → slice_get next i ≡ Some (first_of (places_of s (i + 1) (drop (i + 1) cells)))
      by_place i s from has = here_or_later n i from
          (λ same. let there : slice_get cells i ≡ Some None = ap (slice_get cells) same ∙ at in absurd (cc (rw has at there)))
          (λ later. done.next_are i s later has)

  pub one_cell : (k : Bor Text) (later : List (Option ℕ)) → slice_get cells n ≡ Some (Some k.now) → slice_get later n ≡ Some (head_of heads k.now)
      → ((i : ℕ) → n < i → slice_get later i ≡ slice_get next i) → length later ≡ length next → IsIndexed cells (insert_entry key_eq heads k n) later n
  one_cell k later at here others long = record {
    heads_are = λ t. head_put heads k n t ∙ rw (more (Some k.now) at) (by_text (text_eq t k.now) t);
    next_are = λ i s from has. by_place i s from has;
    len = long ∙ done.len;
  }
    where
      by_text : (b : Bool) (t : Text) → cond b (Some n) (head_of heads t) ≡ first_of (cond b (n ∷ places_of t (n + 1) (drop (n + 1) cells)) (places_of t (n + 1) (drop (n + 1) cells)))
      by_text true t = refl
      by_text false t = done.heads_are t

      by_place : (i : ℕ) (s : Text) → n ≤ i → slice_get cells i ≡ Some (Some s) → slice_get later i ≡ Some (first_of (places_of s (i + 1) (drop (i + 1) cells)))
      by_place i s from has = here_or_later n i from
          (λ same.
          let there : slice_get cells i ≡ Some (Some k.now) = ap (slice_get cells) same ∙ at in
          let text : s ≡ k.now = cc in
          ap (slice_get later) same ∙ here ∙ rw (same, text) (ap Some (done.heads_are k.now)))
          (λ on. others i (omega (arith, on)) ∙ done.next_are i s on has)

-- ---- a walk
-- the first place that has a text, and those behind it
abbrev pub Walks : List (Option Text) → Text → List ℕ → Type 0
Walks cells t ps = (ps ≡ rest_of cells t (first_of ps)) × HasText cells t (first_of ps)

pub walk_begun : (cells : List (Option Text)) (t : Text) (n : ℕ) (cs : List (Option Text)) → drop n cells ≡ cs → Walks cells t (places_of t n cs)
walk_begun cells t n [] e = (refl, tt)
walk_begun cells t n (c ∷ cs) e = by_test (is_cell t c) refl (λ on. walk_begun cells t (n + 1) cs on)
  where
    dropped : (o : Option (Option Text)) → slice_get cells n ≡ o → (drop (n + 1) cells ≡ cs) × (slice_get cells n ≡ Some c)
    dropped None at =
        let none = none_left cells n (sym at) in
        absurd (cc)
    dropped (Some d) at =
        let one = one_left cells n d (sym at) in
        let both : (drop (n + 1) cells ≡ cs) × (d ≡ c) = (cc, cc) in
        (both.0, at ∙ ap Some both.1)

    is_text : (c : Option Text) → is_cell t c ≡ true → c ≡ Some t
    is_text None h = absurd (cc)
    is_text (Some s) h = ap Some (sym (equal_is text_order t s h))

    by_test : (b : Bool) → is_cell t c ≡ b → (drop (n + 1) cells ≡ cs → Walks cells t (places_of t (n + 1) cs)) → Walks cells t (cond b (n ∷ places_of t (n + 1) cs) (places_of t (n + 1) cs))
    by_test true h rest =
        let on = dropped (slice_get cells n) refl in
        (ap (λ l. n ∷ places_of t (n + 1) l) (sym on.0), on.1 ∙ ap Some (is_text c h))
    by_test false h rest = rest (dropped (slice_get cells n) refl).0

-- ---- as the code reads and writes them
set_here : {A : Type 0} (xs : List A) (i : ℕ) (x : A) → i < length xs → slice_get (slice_set xs i x) i ≡ Some x
set_here [] i x lt = absurd (omega arith)
set_here (y ∷ xs) zero x lt = refl
set_here (y ∷ xs) (suc i) x lt = set_here xs i x (omega arith)

set_other : {A : Type 0} (xs : List A) (i j : ℕ) (x : A) → i < j → slice_get (slice_set xs i x) j ≡ slice_get xs j
set_other [] i j x lt = refl
set_other (y ∷ xs) i zero x lt = absurd (omega arith)
set_other (y ∷ xs) zero (suc j) x lt = refl
set_other (y ∷ xs) (suc i) (suc j) x lt = set_other xs i j x (omega arith)

pub cells_long : (r : RelationValue) (a : Text) → length (cells_of (r, a)) ≡ length r.rows
cells_long r a = length-map r.rows (cell_under r.attributes a)

cell_there : (r : RelationValue) (a : Text) (n : ℕ) (row : Row) (o : Option Text) → slice_get r.rows n ≡ Some row → o ≡ cell_under r.attributes a row → slice_get (cells_of (r, a)) n ≡ Some o
cell_there r a n row o at is = slice_get-map (cell_under r.attributes a) r.rows n ∙ ap (option_map (cell_under r.attributes a)) at ∙ ap Some (sym is)

module _ (r : RelationValue) (a : Text) (heads : List (Bor Text × ℕ)) (next : List (Option ℕ)) (n : ℕ) (row : Row) (at : slice_get r.rows n ≡ Some row) (done : IsIndexed (cells_of (r, a)) heads next (n + 1)) where
  pub row_passed : None ≡ cell_under r.attributes a row → IsIndexed (cells_of (r, a)) heads next n
  row_passed is = no_cell (cells_of (r, a)) heads next n done (cell_there r a n row None at is)

  pub row_chained : (k : Bor Text) (old : Option ℕ) → Some k.now ≡ cell_under r.attributes a row → old ≡ head_of heads k.now
      → IsIndexed (cells_of (r, a)) (insert_entry key_eq heads k n) (slice_set next n old) n
  row_chained k old is was =
      let within : n < length next = omega (arith, done.len, cells_long r a, slice_get_within r.rows n row at) in
      one_cell (cells_of (r, a)) heads next n done k (slice_set next n old) (cell_there r a n row (Some k.now) at is)
      (set_here next n old within ∙ ap Some was) (λ i on. set_other next n i old on) (length-set next n old)

module _ (cells : List (Option Text)) (heads : List (Bor Text × ℕ)) (next : List (Option ℕ)) (all : IsIndexed cells heads next 0) (t : Text) where
  pub walked_first : (o : Option ℕ) → o ≡ head_of heads t → HasText cells t o × (rest_of cells t o ≡ places_of t 0 cells)
  walked_first o is =
      let begun = walk_begun cells t 0 cells refl in
      let same : o ≡ first_of (places_of t 0 cells) = is ∙ all.heads_are t in
      rw same (begun.1, sym begun.0)

  pub walked_next : (p : ℕ) (o : Option ℕ) → HasText cells t (Some p) → o ≡ get_or next p o → HasText cells t o × (rest_of cells t o ≡ places_of t (p + 1) (drop (p + 1) cells))
  walked_next p o has is =
      let begun = walk_begun cells t (p + 1) (drop (p + 1) cells) refl in
      let same : o ≡ first_of (places_of t (p + 1) (drop (p + 1) cells)) = is ∙ get_or_from_slice_get next p (first_of (places_of t (p + 1) (drop (p + 1) cells))) o (all.next_are p t (omega arith) has) in
      rw same (begun.1, sym begun.0)

  pub has_row : (p : ℕ) → HasText cells t (Some p) → p < length cells
  has_row p has = slice_get_within cells p (Some t) has

pub walked : {B : Type 0} (f : ℕ → B) (before after all : List B) (e : B) (p : ℕ) (ps rest : List ℕ) → after ≡ before ++ e ∷ [] → e ≡ f p → rest ≡ ps → before ++ map f (p ∷ ps) ≡ all → after ++ map f rest ≡ all
walked f before after all e p ps rest pushed is same h = rw (pushed, is, same, append_assoc before (f p ∷ []) (map f ps)) h
