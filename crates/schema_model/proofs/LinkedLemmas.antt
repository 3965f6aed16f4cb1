-- Linked rows are rows behind places.
use Rattle.std.proofs.Common.{◌≡◌, ◌∙◌, ◌∷◌, ◌++◌, ◌||◌, ◌==◌, [], ℕ, suc, List, Bool, true, false, Some, refl, sym, ap, length, cond, nat_eq, inl, inr, IsSome, is_some, filter, count_by, drop, arith}
use Rattle.std.specs.Prelude.{remove}
use Rattle.std.specs.List.{list_any, AllByRecursion, IsDistinct, position_or_len}
use Rattle.std.proofs.lemmas.Bool.{eq-eqb, ne_eqb}
use Rattle.std.proofs.lemmas.Bool.Decides.{eqb_tells}
use Rattle.std.proofs.lemmas.List.Sums.{length-filter}
use Rattle.ss_text.specs.Texts.{Row, row_eq}
use Rattle.ss_text.proofs.KeyLemmas.{row_order, equal_itself, equal_is}
use Rattle.row_links.specs.Live as links
use Rattle.row_links.specs.Live.{LinkedRows, AddsFirst, following, at_place, rows_like, without_first}
use Rattle.row_links.specs.Chained as chained
use Rattle.row_links.specs.Links.{IsAbsent, IsOnce}
use Rattle.schema_model.specs.ListedRows.{IsNext}
use Rattle.schema_model.specs.Placed.{Placed, placed_rows, places, first_place, after_place, row_at, is_place, ArePlaces}

-- the tests of places and of rows read the same both ways
turned : (a b : ℕ) → nat_eq a b ≡ (b == a)
turned a b = elim (eqb_tells a b) [
  | inl t ↦ t.0 ∙ sym (eq-eqb b a (sym t.1))
  | inr t ↦ t.0 ∙ sym (ne_eqb b a (λ e. t.1 (sym e)))
]

row_turned : (a b : Row) → row_eq a b ≡ row_eq b a
row_turned a b = by (row_eq a b) (row_eq b a) refl refl
  where
    by : (s t : Bool) → row_eq a b ≡ s → row_eq b a ≡ t → s ≡ t
    by true true e f = refl
    by false false e f = refl
    by true false e f = sym (ap (λ (x : Row). row_eq x a) (sym (equal_is row_order a b e)) ∙ equal_itself row_order a) ∙ f
    by false true e f = sym e ∙ ap (λ (x : Row). row_eq x b) (sym (equal_is row_order b a f)) ∙ equal_itself row_order b

pub first_linked : (live : Placed) → links.first_place live ≡ first_place live
first_linked [] = refl
first_linked (e ∷ es) = refl

pub after_linked : (k : ℕ) (live : Placed) → following k live ≡ after_place k live
after_linked k [] = refl
after_linked k (e ∷ es) = ap (λ (b : Bool). cond b es (following k es)) (turned e.0 k) ∙ ap (λ (rest : Placed). cond (k == e.0) es rest) (after_linked k es)

pub place_linked : (k : ℕ) (live : Placed) → is_place k live ≡ true → IsSome (at_place k live)
place_linked k [] h = absurd (cc)
place_linked k (e ∷ es) h = by (k == e.0) (turned e.0 k) h (place_linked k es)
  where
    by : (b : Bool) → nat_eq e.0 k ≡ b → (b || is_place k es) ≡ true → (is_place k es ≡ true → IsSome (at_place k es)) → IsSome (at_place k (e ∷ es))
    by true t here later = ap (λ (b : Bool). is_some (cond b (Some e.1) (at_place k es))) t
    by false t there later = ap (λ (b : Bool). is_some (cond b (Some e.1) (at_place k es))) t ∙ later there

pub row_linked : (k : ℕ) (live : Placed) (row : Row) → at_place k live ≡ Some row → row ≡ row_at k live
row_linked k [] row h = absurd (cc)
row_linked k (e ∷ es) row h = by (k == e.0) (turned e.0 k) (row_linked k es row)
  where
    by : (b : Bool) → nat_eq e.0 k ≡ b → (at_place k es ≡ Some row → row ≡ row_at k es) → row ≡ cond b e.1 (row_at k es)
    by true t later = let is : Some e.1 ≡ Some row = sym (ap (λ (b : Bool). cond b (Some e.1) (at_place k es)) t) ∙ h in cc
    by false t later = later (sym (ap (λ (b : Bool). cond b (Some e.1) (at_place k es)) t) ∙ h)

absent_differ : (p : ℕ) (live : Placed) → IsAbsent p (chained.places live) → AllByRecursion (λ y. (p == y) ≡ false) (places live)
absent_differ p [] h = tt
absent_differ p (e ∷ es) h = (ne_eqb p e.0 h.0, absent_differ p es h.1)

pub once_linked : (live : Placed) → IsOnce (chained.places live) → ArePlaces live
unfolding IsDistinct
once_linked [] h = tt
once_linked (e ∷ es) h = (absent_differ e.0 es h.0, once_linked es h.1)

pub has_linked : (row : Row) (live : Placed) → is_some (links.first_place (rows_like row live)) ≡ list_any (row_eq row) (placed_rows live)
has_linked row [] = refl
has_linked row (e ∷ es) =
    ap (λ (b : Bool). is_some (links.first_place (cond b (e ∷ rows_like row es) (rows_like row es)))) (row_turned e.1 row)
    ∙ by (row_eq row e.1) (has_linked row es)
  where
    by : (b : Bool) → is_some (links.first_place (rows_like row es)) ≡ list_any (row_eq row) (placed_rows es)
        → is_some (links.first_place (cond b (e ∷ rows_like row es) (rows_like row es))) ≡ (b || list_any (row_eq row) (placed_rows es))
    by true later = refl
    by false later = later

like_linked : (row : Row) (live : Placed) → length (rows_like row live) ≡ length (filter (row_eq row) (placed_rows live))
like_linked row [] = refl
like_linked row (e ∷ es) =
    ap (λ (b : Bool). length (cond b (e ∷ rows_like row es) (rows_like row es))) (row_turned e.1 row)
    ∙ by (row_eq row e.1) (like_linked row es)
  where
    by : (b : Bool) → length (rows_like row es) ≡ length (filter (row_eq row) (placed_rows es))
        → length (cond b (e ∷ rows_like row es) (rows_like row es)) ≡ length (cond b (e.1 ∷ filter (row_eq row) (placed_rows es)) (filter (row_eq row) (placed_rows es)))
    by true later = ap suc later
    by false later = later

pub copies_linked : (row : Row) (live : Placed) → length (rows_like row live) ≡ count_by (row_eq row) (placed_rows live)
copies_linked row live = like_linked row live ∙ length-filter (row_eq row) (placed_rows live)

later_place : (row x : Row) (xs : List Row) → row_eq row x ≡ false → position_or_len (row_eq row) (x ∷ xs) ≡ suc (position_or_len (row_eq row) xs)
later_place row x xs t = rw t (omega arith)

pub taken_linked : (row : Row) (live : Placed) → placed_rows (without_first row live) ≡ remove (placed_rows live) (position_or_len (row_eq row) (placed_rows live))
taken_linked row [] = refl
taken_linked row (e ∷ es) =
    ap (λ (b : Bool). placed_rows (cond b es (e ∷ without_first row es))) (row_turned e.1 row)
    ∙ by (row_eq row e.1) refl (taken_linked row es)
  where
    by : (b : Bool) → row_eq row e.1 ≡ b → placed_rows (without_first row es) ≡ remove (placed_rows es) (position_or_len (row_eq row) (placed_rows es))
        → placed_rows (cond b es (e ∷ without_first row es)) ≡ remove (placed_rows (e ∷ es)) (position_or_len (row_eq row) (placed_rows (e ∷ es)))
    by true t later = rw t refl
    by false t later = ap (λ (rows : List Row). e.1 ∷ rows) later ∙ sym (ap (remove (placed_rows (e ∷ es))) (later_place row e.1 (placed_rows es) t))

-- a row that waits alone is the first
pub alone_next : (row : Row) (waiting : List Row) → waiting ≡ row ∷ [] → IsNext row waiting
alone_next row waiting alone = alone ∙ ap (λ (ws : List Row). row ∷ ws) (sym (ap (drop 1) alone))

-- the first that waits is added, and those behind it wait on
pub next_linked : (old new : LinkedRows) (row : Row) → AddsFirst old new → IsNext row old.waiting → placed_rows new.live ≡ placed_rows old.live ++ row ∷ []
next_linked old new row added next =
    let heads : added.row ∷ added.others ≡ row ∷ drop 1 old.waiting = sym added.waited ∙ next in
    let same : added.row ≡ row = cc in
    ap placed_rows (ap (λ (v : LinkedRows). v.live) added.added)
    ∙ more old.live
    ∙ ap (λ (r : Row). placed_rows old.live ++ r ∷ []) same
  where
    more : (es : Placed) → placed_rows (es ++ (added.place, added.row) ∷ []) ≡ placed_rows es ++ added.row ∷ []
    more [] = refl
    more (e ∷ es) = ap (λ (rows : List Row). e.1 ∷ rows) (more es)

pub left_linked : (old new : LinkedRows) → AddsFirst old new → new.waiting ≡ drop 1 old.waiting
left_linked old new added = ap (λ (v : LinkedRows). v.waiting) added.added ∙ sym (ap (drop 1) added.waited)

pub added_linked : (old new : LinkedRows) (row : Row) → AddsFirst old new → old.waiting ≡ row ∷ [] → placed_rows new.live ≡ placed_rows old.live ++ row ∷ []
added_linked old new row added waits = next_linked old new row added (alone_next row old.waiting waits)
