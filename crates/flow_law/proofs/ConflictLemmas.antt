-- The least conflict of facts in order is the first clash of neighbours.
use Rattle.std.proofs.Common.{◌≡◌, ◌≤◌, ◌<◌, get_or, arith, ℕ, suc, Bool, true, false, cond, List, [], ◌∷◌, take, drop, length, Option, Some, None, refl, sym, ap, subst, ◌∙◌, one-add}
use Rattle.std.specs.Prelude.{not, ◌==◌, ◌&&◌, if◌then◌else◌}
use Rattle.std.specs.Option.{option_or}
use Rattle.std.specs.declared.cmp.Ordering.{Ordering}
use Rattle.std.specs.declared.cmp.Ordering.TheVariants.{Less, Equal, Greater}
use Rattle.std.specs.List.{AllByRecursion, prefix_len}
use Rattle.std.specs.List.Sorted.{IsStrictlySortedBy}
use Rattle.std.specs.Ordering.{on, ordering_then, ordering_reverse}
use Rattle.ss_text.specs.Texts.{Text, text_cmp, text_eq, row_cmp, row_eq}
use Rattle.ss_text.specs.Ascending.{ascending}
use Rattle.ss_text.proofs.KeyLemmas.{text_order, row_order, equal_itself, equal_is}
use Rattle.std.proofs.lemmas.List.Kept.{IsStrictlySortedBy-filter}
use Rattle.ss_text.proofs.GroupLemmas.{grouped, Rises, rises, inner, first_group, first_taken, strict_keys, ascending_strict}
use Rattle.flow_law.specs.declared.refused.Clash.{Clash}
use Rattle.flow_law.specs.Facts.{Fact, Spot, clash_of, conflict}
use Rattle.flow_law.specs.FactOrder.{fact_cmp}
use Rattle.flow_law.specs.Neighbours.{clash, cells_clash, clash_between, first_clash}
use Rattle.flow_law.proofs.Entries.{some_length, Entry, spot_eq, spot_order, spot_of, entry_cmp, entries, put, kept, values_of, clash_in, first_some, conflict_is}

-- neighbours among entries
abbrev entry_clash : Entry → Entry → Option Clash
entry_clash e d = if spot_eq e.0 d.0 && not (length e.1 == 0) then Some (clash e.0.0 e.0.1 e.0.2 e.1 d.1) else None

abbrev first_entry_clash : List Entry → Option Clash
first_entry_clash [] = None
first_entry_clash (e ∷ []) = None
first_entry_clash (e ∷ d ∷ es) = option_or (entry_clash e d) (first_entry_clash (d ∷ es))

alone : (e : Entry) → clash_in e.0 (e ∷ []) ≡ None
alone e = either (not (length e.1 == 0))
  where
    either : (b : Bool) → clash_of e.0 (ascending text_cmp (cond b (e.1 ∷ []) [])) ≡ None
    either true = refl
    either false = refl

less_has : (v w : Text) → text_cmp v w ≡ Less → not (length w == 0) ≡ true
less_has [] [] e = absurd (cc)
less_has (x ∷ v) [] e = absurd (cc)
less_has v (y ∷ w) e = some_length (length w)

two_kept : (s : Spot) (v w : Text) (vs : List Text) → IsStrictlySortedBy text_cmp (v ∷ w ∷ vs) → not (length v == 0) ≡ true
    → clash_of s (ascending text_cmp (kept (v ∷ w ∷ vs))) ≡ Some (clash s.0 s.1 s.2 v w)
unfolding IsStrictlySortedBy
two_kept s v w vs h some =
    rw (ascending_strict text_order.total (kept (v ∷ w ∷ vs)) (IsStrictlySortedBy-filter text_cmp (λ (u : Text). not (length u == 0)) (v ∷ w ∷ vs) h), some, less_has v w h.0.0) refl

-- two entries and those behind them
module _ (e d : Entry) (es : List Entry) (sorted : IsStrictlySortedBy entry_cmp (e ∷ d ∷ es)) where
  values : Entry → Text
  values x = x.1

  group_rises : Rises spot_order spot_of (e ∷ d ∷ es)
  group_rises = rises spot_order spot_of (on (λ (x : Entry). x.1) text_cmp) (e ∷ d ∷ es) sorted

  more : ℕ
  more = prefix_len (λ (x : Entry). spot_eq e.0 x.0) (d ∷ es)

  count_is : suc more ≡ prefix_len (λ (x : Entry). spot_eq e.0 x.0) (e ∷ d ∷ es)
  unfolding more
  count_is = rw (equal_itself spot_order e.0) (sym (one-add more))

  group_is : grouped spot_order spot_of clash_in (e ∷ d ∷ es) ≡ clash_in e.0 (e ∷ take more (d ∷ es)) ∷ grouped spot_order spot_of clash_in (drop more (d ∷ es))
  group_is = first_group spot_order spot_of e (d ∷ es) group_rises clash_in (suc more) count_is

  values_rise : IsStrictlySortedBy text_cmp (values_of (e ∷ take more (d ∷ es)))
  values_rise =
      strict_keys text_cmp (λ (x : Entry). x.1) (e ∷ take more (d ∷ es))
      (subst (IsStrictlySortedBy (on (λ (x : Entry). x.1) text_cmp)) (first_taken spot_order spot_of e (d ∷ es) group_rises (suc more) count_is)
      (inner spot_order spot_of (on (λ (x : Entry). x.1) text_cmp) e.0 (e ∷ d ∷ es) sorted))

  none_more : spot_eq e.0 d.0 ≡ false → more ≡ 0
  unfolding more
  none_more differ = rw differ refl

  -- of two spots
  apart : spot_eq e.0 d.0 ≡ false → first_some (grouped spot_order spot_of clash_in (e ∷ d ∷ es)) ≡ first_some (grouped spot_order spot_of clash_in (d ∷ es))
  apart differ = ap first_some (rw (none_more differ, alone e) at group_is)

  -- of one spot
  module _ (same : spot_eq e.0 d.0 ≡ true) where
    one_spot : e.0 ≡ d.0
    one_spot = equal_is spot_order e.0 d.0 same

    next_is : grouped spot_order spot_of clash_in (d ∷ es) ≡ clash_in e.0 (take more (d ∷ es)) ∷ grouped spot_order spot_of clash_in (drop more (d ∷ es))
    unfolding more
    next_is =
        subst (λ (s : Spot). grouped spot_order spot_of clash_in (d ∷ es) ≡ clash_in s (take (prefix_len (λ (x : Entry). spot_eq s x.0) (d ∷ es)) (d ∷ es)) ∷ grouped spot_order spot_of clash_in (drop (prefix_len (λ (x : Entry). spot_eq s x.0) (d ∷ es)) (d ∷ es)))
        (sym one_spot) (first_group spot_order spot_of d es group_rises.1 clash_in (prefix_len (λ (x : Entry). spot_eq d.0 x.0) (d ∷ es)) refl)

    behind : more ≡ suc (prefix_len (λ (x : Entry). spot_eq e.0 x.0) es)
    unfolding more
    behind = rw (same, one-add) refl

    empty_first : not (length e.1 == 0) ≡ false → first_some (grouped spot_order spot_of clash_in (e ∷ d ∷ es)) ≡ first_some (grouped spot_order spot_of clash_in (d ∷ es))
    empty_first empty = ap first_some (rw empty at group_is ∙ sym next_is)

    full_first : not (length e.1 == 0) ≡ true → first_some (grouped spot_order spot_of clash_in (e ∷ d ∷ es)) ≡ Some (clash e.0.0 e.0.1 e.0.2 e.1 d.1)
    full_first full =
        let values : IsStrictlySortedBy text_cmp (e.1 ∷ d.1 ∷ values_of (take (prefix_len (λ (x : Entry). spot_eq e.0 x.0) es) es)) = rw behind at values_rise in
        let found : clash_in e.0 (e ∷ take more (d ∷ es)) ≡ Some (clash e.0.0 e.0.1 e.0.2 e.1 d.1) = rw behind (two_kept e.0 e.1 d.1 _ values full) in
        ap first_some (rw found at group_is)

  first_pair : first_some (grouped spot_order spot_of clash_in (d ∷ es)) ≡ first_entry_clash (d ∷ es) → first_some (grouped spot_order spot_of clash_in (e ∷ d ∷ es)) ≡ first_entry_clash (e ∷ d ∷ es)
  first_pair rest = by_spots (spot_eq e.0 d.0) refl (not (length e.1 == 0)) refl
    where
      by_spots : (b : Bool) → spot_eq e.0 d.0 ≡ b → (v : Bool) → not (length e.1 == 0) ≡ v → first_some (grouped spot_order spot_of clash_in (e ∷ d ∷ es)) ≡ option_or (if b && v then Some (clash e.0.0 e.0.1 e.0.2 e.1 d.1) else None) (first_entry_clash (d ∷ es))
      by_spots false differ v is = apart differ ∙ rest
      by_spots true same false empty = empty_first same empty ∙ rest
      by_spots true same true full = full_first same full

one_group : (e : Entry) → grouped spot_order spot_of clash_in (e ∷ []) ≡ clash_in e.0 (e ∷ []) ∷ []
one_group e = rw (equal_itself spot_order e.0) refl

entries_clash : (es : List Entry) → IsStrictlySortedBy entry_cmp es → first_some (grouped spot_order spot_of clash_in es) ≡ first_entry_clash es
unfolding IsStrictlySortedBy
entries_clash [] h = refl
entries_clash (e ∷ []) h = ap first_some (one_group e) ∙ rw (alone e) refl
entries_clash (e ∷ d ∷ es) h = first_pair e d es h (entries_clash (d ∷ es) h.1)

-- entries of facts in order are in order
associated : (l k u v : Ordering) → ordering_then (ordering_then l (ordering_then k u)) v ≡ ordering_then l (ordering_then k (ordering_then u v))
associated Less k u v = refl
associated Equal Less u v = refl
associated Equal Equal u v = refl
associated Equal Greater u v = refl
associated Greater k u v = refl

all_later : (e : Entry) (f : Fact) (fs : List Fact) → f.cell ≡ Some (e.0.2, e.1) → f.label ≡ e.0.0 → f.key ≡ e.0.1 → AllByRecursion (λ (g : Fact). fact_cmp f g ≡ Less) fs → AllByRecursion (λ (d : Entry). entry_cmp e d ≡ Less) (entries fs)
all_later e f [] c l k h = tt
all_later e f (g ∷ gs) c l k h = by_cell g.cell refl (all_later e f gs c l k h.1)
  where
    by_cell : (cell : Option (Text × Text)) → g.cell ≡ cell → AllByRecursion (λ (d : Entry). entry_cmp e d ≡ Less) (entries gs)
        → AllByRecursion (λ (d : Entry). entry_cmp e d ≡ Less) (put g cell (entries gs))
    by_cell None is rest = rest
    by_cell (Some d) is rest =
        (associated (text_cmp e.0.0 g.label) (row_cmp e.0.1 g.key) (text_cmp e.0.2 d.0) (text_cmp e.1 d.1) ∙ rw (c, is, l, k) at h.0, rest)

entries_rise : (fs : List Fact) → IsStrictlySortedBy fact_cmp fs → IsStrictlySortedBy entry_cmp (entries fs)
unfolding IsStrictlySortedBy
entries_rise [] h = tt
entries_rise (f ∷ fs) h = by_cell f.cell refl (entries_rise fs h.1)
  where
    by_cell : (cell : Option (Text × Text)) → f.cell ≡ cell → IsStrictlySortedBy entry_cmp (entries fs)
        → IsStrictlySortedBy entry_cmp (put f cell (entries fs))
    by_cell None is rest = rest
    by_cell (Some c) is rest = (all_later ((f.label, f.key, c.0), c.1) f fs is refl refl h.0, rest)

-- a fact with a cell, one without, and a later one
impossible : (l k r : Ordering) → ordering_then l (ordering_then k Greater) ≡ Less → ordering_then (ordering_reverse l) (ordering_then (ordering_reverse k) r) ≡ Less → ⊥
impossible Less k r h g = absurd (cc)
impossible Equal Less r h g = absurd (cc)
impossible Equal Equal r h g = absurd (cc)
impossible Equal Greater r h g = absurd (cc)
impossible Greater k r h g = absurd (cc)

differs : (f g z : Fact) (c : Text × Text) (column : Text) → f.cell ≡ Some c → g.cell ≡ None → fact_cmp f g ≡ Less → fact_cmp g z ≡ Less
    → text_eq f.label z.label && (row_eq f.key z.key && text_eq c.0 column) ≡ false
differs f g z c column some none before after = by_parts (text_eq f.label z.label) refl (row_eq f.key z.key) refl
  where
    by_parts : (t : Bool) → text_eq f.label z.label ≡ t → (k : Bool) → row_eq f.key z.key ≡ k → t && (k && text_eq c.0 column) ≡ false
    by_parts false is k keys = refl
    by_parts true is false keys = refl
    by_parts true is true keys = absurd (impossible (text_cmp f.label g.label) (row_cmp f.key g.key) _ (rw (some, none) at before)
        (rw (← equal_is text_order f.label z.label is, ← equal_is row_order f.key z.key keys, text_order.total.antisymm g.label f.label, row_order.total.antisymm g.key f.key) at after))

-- an entry whose spot no later fact names
lone : (e : Entry) (f g : Fact) (fs : List Fact) → f.cell ≡ Some (e.0.2, e.1) → f.label ≡ e.0.0 → f.key ≡ e.0.1 → g.cell ≡ None → fact_cmp f g ≡ Less
    → AllByRecursion (λ (z : Fact). fact_cmp g z ≡ Less) fs → first_entry_clash (e ∷ entries fs) ≡ first_entry_clash (entries fs)
lone e f g [] c l k none before after = refl
lone e f g (z ∷ zs) c l k none before after = by_cell z.cell (lone e f g zs c l k none before after.1)
  where
    by_cell : (cell : Option (Text × Text)) → first_entry_clash (e ∷ entries zs) ≡ first_entry_clash (entries zs)
        → first_entry_clash (e ∷ put z cell (entries zs))
        ≡ first_entry_clash (put z cell (entries zs))
    by_cell None rest = rest
    by_cell (Some d) rest = rw (rw (l, k) at (differs f g z (e.0.2, e.1) d.0 c none before after.0)) refl

-- the clash of two facts, by their cells
by_cells : (t k u v : Bool) (c : Clash) → (if t && (k && u) && v then Some c else None) ≡ (if t && k then (if u && v then Some c else None) else None)
by_cells true true true v c = refl
by_cells true true false v c = refl
by_cells true false u v c = refl
by_cells false k u v c = refl

never : (b : Bool) → let none : Option Clash = None in none ≡ (if b then none else none)
never true = refl
never false = refl

module _ (f g : Fact) (fs : List Fact) (before : fact_cmp f g ≡ Less) (after : AllByRecursion (λ (z : Fact). fact_cmp g z ≡ Less) fs) where
  two_facts : (p q : Option (Text × Text)) → f.cell ≡ p → g.cell ≡ q → first_entry_clash (put g q (entries fs)) ≡ first_clash (g ∷ fs)
      → first_entry_clash (put f p (put g q (entries fs))) ≡ option_or (if text_eq f.label g.label && row_eq f.key g.key then cells_clash f.label f.key p q else None) (first_clash (g ∷ fs))
  two_facts None q is next rest = rest ∙ ap (λ (o : Option Clash). option_or o (first_clash (g ∷ fs))) (never (text_eq f.label g.label && row_eq f.key g.key))
  two_facts (Some c) None is next rest =
      lone ((f.label, f.key, c.0), c.1) f g fs is refl refl next before after ∙ rest
      ∙ ap (λ (o : Option Clash). option_or o (first_clash (g ∷ fs))) (never (text_eq f.label g.label && row_eq f.key g.key))
  two_facts (Some c) (Some d) is next rest =
      ap (option_or _) rest
      ∙ ap (λ (o : Option Clash). option_or o (first_clash (g ∷ fs))) (by_cells (text_eq f.label g.label) (row_eq f.key g.key) (text_eq c.0 d.0) (not (length c.1 == 0)) (clash f.label f.key c.0 c.1 d.1))

facts_clash : (fs : List Fact) → IsStrictlySortedBy fact_cmp fs → first_entry_clash (entries fs) ≡ first_clash fs
unfolding IsStrictlySortedBy
facts_clash [] h = refl
facts_clash (f ∷ []) h = by_cell f.cell
  where
    by_cell : (cell : Option (Text × Text)) → first_entry_clash (put f cell []) ≡ None
    by_cell None = refl
    by_cell (Some c) = refl
facts_clash (f ∷ g ∷ fs) h = two_facts f g fs h.0.0 h.1.0 f.cell g.cell refl refl (facts_clash (g ∷ fs) h.1)

-- facts in order are refused for the first two neighbours that clash
pub conflict_first : (fs : List Fact) → IsStrictlySortedBy fact_cmp fs → first_clash fs ≡ conflict fs
conflict_first fs h = sym (conflict_is fs ∙ entries_clash (entries fs) (entries_rise fs h) ∙ facts_clash fs h)

-- facts with and without two at the front
pub first_two : (fs : List Fact) (f g : Fact) → 2 ≤ length fs → f ≡ get_or fs 0 f → g ≡ get_or fs 1 g → first_clash fs ≡ option_or (clash_between f g) (first_clash (drop 1 fs))
first_two [] f g le first second = absurd (omega arith)
first_two (x ∷ []) f g le first second = absurd (omega arith)
first_two (x ∷ y ∷ fs) f g le first second = rw (first, second) refl

pub no_two : (fs : List Fact) → length fs < 2 → first_clash fs ≡ None
no_two [] lt = refl
no_two (x ∷ []) lt = refl
no_two (x ∷ y ∷ fs) lt = absurd (omega arith)
