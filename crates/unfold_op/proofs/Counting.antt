-- What is counted of one fact more.
use Rattle.std.proofs.Common.{◌≡◌, ◌+◌, ◌<◌, ◌^◌, ◌∷◌, ℕ, zero, suc, Bool, true, false, cond, List, Option, Some, None, refl, sym, ◌∙◌, ap, length, arith}
use Rattle.std.specs.Prelude.{◌&&◌, ◌||◌, ◌==◌, nat_lt, count_by, if◌then◌else◌}
use Rattle.std.specs.Option.{option_map_or}
use Rattle.std.proofs.lemmas.Bool.{false≢true}
use Rattle.std.proofs.lemmas.List.Sums.{sum_by-cons, count_by-le-length}
use Rattle.ss_text.specs.Texts.{Text, Row, text_eq, row_eq}
use Rattle.ss_text.proofs.KeyLemmas.{text_order, row_order, equal_itself, equal_is}
use Rattle.ss_text.proofs.PairLemmas.{turned}
use Rattle.flow_law.specs.Facts.{Fact}
use Rattle.unfold_op.specs.declared.facts.FactCounts.{FactCounts}
use Rattle.counts.specs.Counted.{counted}
use Rattle.unfold_op.specs.Touched.{Place, Entry, entry_eq, place_eq, bears_key, bears_column, bears_entry}
use Rattle.indexmap.specs.IndexMap.{get}
use Rattle.unfold_op.specs.Kept.{held, times_at}
use Rattle.unfold_op.specs.Moves.{Stands, CanCount}
use Rattle.unfold_op.proofs.TouchedLines.{place_order}
use Rattle.unfold_op.proofs.Present.{entry_order, has_entry}
use Rattle.unfold_op.proofs.CountLemmas.{any_counted}
use Rattle.unfold_op.proofs.OneValue.{one_value}

one_more : (b : Bool) (n : ℕ) → n + (if b then 1 else 0) ≡ cond b 1 0 + n
one_more true n = omega arith
one_more false n = omega arith

-- a count of one fact more
with_fact : (p : Fact → Bool) (f : Fact) (fs : List Fact) (b : Bool) (n : ℕ) → n ≡ count_by p fs → b ≡ p f → n + (if b then 1 else 0) ≡ count_by p (f ∷ fs)
with_fact p f fs b n is e = rw (is, e) (one_more (p f) (count_by p fs)) ∙ sym (sum_by-cons _ f fs)

-- a count that it does not change
without : (p : Fact → Bool) (f : Fact) (fs : List Fact) (n : ℕ) → n ≡ count_by p fs → p f ≡ false → n ≡ count_by p (f ∷ fs)
without p f fs n is e = is ∙ none (p f) e ∙ sym (sum_by-cons _ f fs)
  where
    none : (b : Bool) → b ≡ false → count_by p fs ≡ cond b 1 0 + count_by p fs
    none false e = omega arith
    none true e = absurd (false≢true (sym e))

module _ (k : FactCounts) (f : Fact) (fs : List Fact) (h : CanCount k f fs) where
  -- no count is too large
  few_of : (p : Fact → Bool) → count_by p fs + 1 < 2 ^ 128
  few_of p = omega (arith, h.few, count_by-le-length p fs)

  pub few_keys : (q : Row) → counted row_eq k.keys q + 1 < 2 ^ 128
  few_keys q = rw (h.stands.keys q) (few_of (bears_key q))

  pub few_columns : (q : Text) → counted text_eq k.columns q + 1 < 2 ^ 128
  few_columns q = rw (h.stands.columns q) (few_of (bears_column q))

  pub few_entries : (e : Entry) → held k.cells e + 1 < 2 ^ 128
  few_entries e = rw (h.stands.entries e) (few_of (bears_entry e))

  -- a place has no other value than that of the fact
  pub alone : (p : Place) (v w : Text) → bears_entry (p, v) f ≡ true → text_eq w v ≡ false → held k.cells (p, w) ≡ 0
  alone p v w here differs = h.stands.entries (p, w) ∙ none (count_by (bears_entry (p, w)) fs) refl
    where
      there : (n : ℕ) → count_by (bears_entry (p, w)) fs ≡ suc n → has_entry (f ∷ fs) (p, w) ≡ true
      there n is = ap (λ b. bears_entry (p, w) f || b) (sym (any_counted (bears_entry (p, w)) fs) ∙ ap (nat_lt 0) is ∙ some n) ∙ later (bears_entry (p, w) f)
        where
          some : (m : ℕ) → nat_lt 0 (suc m) ≡ true
          some m = grind arith

          later : (a : Bool) → (a || true) ≡ true
          later true = refl
          later false = refl

      none : (n : ℕ) → count_by (bears_entry (p, w)) fs ≡ n → n ≡ 0
      none zero is = refl
      none (suc n) is =
          let same : v ≡ w = one_value f.label (f ∷ fs) h.bear h.clean p v w (ap (λ b. b || has_entry fs (p, v)) here) (there n is) in
          absurd (false≢true (sym differs ∙ ap (text_eq w) same ∙ equal_itself text_order w))

  module _ (p : Place) (v : Text) (here : bears_entry (p, v) f ≡ true) where
    -- how often its value is kept
    times_are : times_at k.cells p ≡ held k.cells (p, v)
    times_are = by_kept (get place_eq k.cells p) refl
      where
        by_kept : (o : Option (Text × ℕ)) → get place_eq k.cells p ≡ o → option_map_or (λ (c : Text × ℕ). c.1) o 0 ≡ option_map_or (λ (c : Text × ℕ). if text_eq v c.0 then c.1 else 0) o 0
        by_kept None is = refl
        by_kept (Some c) is = by_test (text_eq v c.0) refl
          where
            own : held k.cells (p, c.0) ≡ c.1
            own = rw (is, equal_itself text_order c.0) refl

            by_test : (b : Bool) → text_eq v c.0 ≡ b → c.1 ≡ (if b then c.1 else 0)
            by_test true e = refl
            by_test false e = sym own ∙ alone p v c.0 here (turned text_order c.0 v ∙ e)

    pub few_times : times_at k.cells p + 1 < 2 ^ 128
    few_times = rw times_are (few_entries (p, v))

    -- and how often each value is, once more
    pub held_with : (l : FactCounts) → ((q : Place) → get place_eq l.cells q ≡ (if place_eq p q then Some (v, times_at k.cells p + 1) else get place_eq k.cells q))
        → (e : Entry) → held l.cells e ≡ held k.cells e + (if entry_eq e (p, v) then 1 else 0)
    held_with l cells e = ap (λ (o : Option (Text × ℕ)). option_map_or (λ (c : Text × ℕ). if text_eq e.1 c.0 then c.1 else 0) o 0) (cells e.0) ∙ by_place (place_eq p e.0) refl
      where
        same : (n m : ℕ) → n ≡ m → n + 1 ≡ m + 1
        same n m e = ap (λ (x : ℕ). x + 1) e

        none : (n : ℕ) → n ≡ n + 0
        none n = omega arith

        by_value : p ≡ e.0 → place_eq e.0 p ≡ true → (b : Bool) → text_eq e.1 v ≡ b → (if b then times_at k.cells p + 1 else 0) ≡ held k.cells e + (if true && b then 1 else 0)
        by_value at there true t = same (times_at k.cells p) (held k.cells e) (times_are ∙ ap (held k.cells) (λ i. let d : Entry = (at i, sym (equal_is text_order e.1 v t) i) in d))
        by_value at there false t = sym (alone p v e.1 here t) ∙ ap (λ (q : Place). held k.cells (q, e.1)) at ∙ none (held k.cells e)

        by_place : (b : Bool) → place_eq p e.0 ≡ b
            → option_map_or (λ (c : Text × ℕ). if text_eq e.1 c.0 then c.1 else 0) (if b then Some (v, times_at k.cells p + 1) else get place_eq k.cells e.0) 0 ≡ held k.cells e + (if entry_eq e (p, v) then 1 else 0)
        by_place true t =
            let there : place_eq e.0 p ≡ true = turned place_order e.0 p ∙ t in
            rw there (by_value (equal_is place_order p e.0 t) there (text_eq e.1 v) refl)
        by_place false t = rw (turned place_order e.0 p ∙ t) (none (held k.cells e))

module _ (k l : FactCounts) (label : Text) (key : Row) (fs : List Fact) (keys : (q : Row) → counted row_eq l.keys q ≡ counted row_eq k.keys q + (if row_eq key q then 1 else 0)) where
  keys_with : (f : Fact) → f.key ≡ key → CanCount k f fs → (q : Row) → counted row_eq l.keys q ≡ count_by (bears_key q) (f ∷ fs)
  keys_with f is h q = keys q ∙ with_fact (bears_key q) f fs (row_eq key q) (counted row_eq k.keys q) (h.stands.keys q) (turned row_order key q ∙ ap (row_eq q) (sym is))

  -- a fact without a cell
  pub stands_plain : l.columns ≡ k.columns → l.cells ≡ k.cells → let f : Fact = record { label = label; key = key; cell = None } in CanCount k f fs → Stands l (f ∷ fs)
  stands_plain same_columns same_cells h =
      let f : Fact = record { label = label; key = key; cell = None } in
      record {
        keys = keys_with f refl h;
        columns = λ q. without (bears_column q) f fs (counted text_eq l.columns q) (ap (λ m. counted text_eq m q) same_columns ∙ h.stands.columns q) refl;
        entries = λ e. without (bears_entry e) f fs (held l.cells e) (ap (λ m. held m e) same_cells ∙ h.stands.entries e) refl;
      }

  module _ (column value : Text) (columns : (q : Text) → counted text_eq l.columns q ≡ counted text_eq k.columns q + (if text_eq column q then 1 else 0)) where
    abbrev fact : Fact
    fact = record { label = label; key = key; cell = Some (column, value) }

    columns_with : CanCount k fact fs → (q : Text) → counted text_eq l.columns q ≡ count_by (bears_column q) (fact ∷ fs)
    columns_with h q = columns q ∙ with_fact (bears_column q) fact fs (text_eq column q) (counted text_eq k.columns q) (h.stands.columns q) (turned text_order column q)

    -- one with an empty value
    pub stands_empty : (length value == 0) ≡ true → l.cells ≡ k.cells → CanCount k fact fs → Stands l (fact ∷ fs)
    stands_empty empty same_cells h = record {
      keys = keys_with fact refl h;
      columns = columns_with h;
      entries = λ e. without (bears_entry e) fact fs (held l.cells e) (ap (λ m. held m e) same_cells ∙ h.stands.entries e) (ap (λ b. option_map_or (entry_eq e) (if b then None else Some ((key, column), value)) false) empty);
    }

    -- one with a value
    pub stands_full : (length value == 0) ≡ false → ((e : Entry) → held l.cells e ≡ held k.cells e + (if entry_eq e ((key, column), value) then 1 else 0)) → CanCount k fact fs → Stands l (fact ∷ fs)
    stands_full full cells h = record {
      keys = keys_with fact refl h;
      columns = columns_with h;
      entries = λ e. cells e ∙ with_fact (bears_entry e) fact fs (entry_eq e ((key, column), value)) (held k.cells e) (h.stands.entries e) (ap (λ b. option_map_or (entry_eq e) (if b then None else Some ((key, column), value)) false) (sym full));
    }

-- the fact bears its own entry
pub bears_own : (label : Text) (key : Row) (column value : Text) → (length value == 0) ≡ false → let f : Fact = record { label = label; key = key; cell = Some (column, value) } in bears_entry ((key, column), value) f ≡ true
bears_own label key column value full = rw full (equal_itself entry_order ((key, column), value))
