-- What is stored stands for the new facts.
use Rattle.std.proofs.Common.{◌≡◌, ◌∷◌, [], ℕ, zero, suc, Bool, true, false, cond, List, Option, Some, None, refl, sym, ◌∙◌, ap, map, arith}
use Rattle.std.specs.Prelude.{◌&&◌, ◌||◌, nat_lt, count_by, unwrap_or, option_map, option_to_list, if◌then◌else◌}
use Rattle.std.specs.Option.{option_map_or}
use Rattle.std.specs.List.{list_any}
use Rattle.std.specs.Map.{lookup}
use Rattle.std.specs.declared.cmp.Ordering.{Ordering}
use Rattle.std.proofs.lemmas.Bool.{false≢true}
use Rattle.indexmap.specs.IndexMap.{get}
use Rattle.ss_text.specs.Texts.{Text, Row, text_eq, row_eq, is_in}
use Rattle.ss_text.proofs.KeyLemmas.{IsKeyOrder, text_order, row_order, equal_is}
use Rattle.ss_text.proofs.PairLemmas.{turned}
use Rattle.flow_law.specs.Facts.{Fact}
use Rattle.counts.specs.declared.moves.Move.{Move}
use Rattle.counts.specs.Counted.{counted, keys_of, changed_get, positive}
use Rattle.unfold_op.specs.declared.facts.FactCounts.{FactCounts}
use Rattle.unfold_op.specs.declared.facts.Nets.{Nets}
use Rattle.unfold_op.specs.declared.ready.NewCounts.{NewCounts}
use Rattle.unfold_op.specs.Touched.{Place, Entry, place_eq, bears_key, bears_column, bears_entry}
use Rattle.unfold_op.specs.Kept.{held, places_of, first_clash}
use Rattle.unfold_op.specs.Nets.{now, present_of}
use Rattle.unfold_op.specs.Moves.{IsChange, Stands}
use Rattle.unfold_op.specs.Stored.{IsReady, new_cell}
use Rattle.unfold_op.proofs.FactCells.{key_named, column_named}
use Rattle.unfold_op.proofs.TouchedLines.{place_order}
use Rattle.unfold_op.proofs.Present.{has_entry, found_among}
use Rattle.unfold_op.proofs.Clashes.{present_ascends}
use Rattle.unfold_op.proofs.NetConflict.{any_present, not_named}
use Rattle.unfold_op.proofs.CountLemmas.{any_counted, same_count, keys_after, columns_after, entries_after, counts_before, counts_now, names, beyond}

-- a map of some keys, over what was there
stored : {K V : Type 0} {R : K → K → Ordering} {E : K → K → Bool} (o : IsKeyOrder R E) (f : K → Option V) (ks : List K) (old : K → Option V) (q : K)
    → changed_get E (map (λ k. let e : K × Option V = (k, f k) in e) ks) old q ≡ cond (list_any (E q) ks) (f q) (old q)
stored o f [] old q = refl
stored {K = K} {V = V} {E = E} o f (k ∷ ks) old q = by_test (E k q) refl (stored o f ks old q)
  where
    by_test : (b : Bool) → E k q ≡ b → changed_get E (map (λ k. let e : K × Option V = (k, f k) in e) ks) old q ≡ cond (list_any (E q) ks) (f q) (old q)
        → unwrap_or (cond (E k q) (Some (f k)) (lookup (λ p. E p q) (map (λ k. let e : K × Option V = (k, f k) in e) ks))) (old q) ≡ cond (E q k || list_any (E q) ks) (f q) (old q)
    by_test true e rest = rw (turned o q k, e) (ap f (equal_is o k q e))
    by_test false e rest = rw (turned o q k, e) rest

some_more : (n : ℕ) → nat_lt 0 (suc n) ≡ true
some_more n = grind arith

positive_is : (n : ℕ) → unwrap_or (positive n) 0 ≡ n
positive_is zero = refl
positive_is (suc n) = rw (some_more n) refl

zero_counted : (n : ℕ) → nat_lt 0 n ≡ false → n ≡ 0
zero_counted zero h = refl
zero_counted (suc n) h = absurd (false≢true (sym h ∙ some_more n))

-- counts of keys
count_stored : {K : Type 0} {R : K → K → Ordering} {E : K → K → Bool} (o : IsKeyOrder R E) (old here new : K → ℕ) (ks : List K) (kept : K → Option ℕ) (q : K)
    → unwrap_or (kept q) 0 ≡ old q → (list_any (E q) ks ≡ false → old q ≡ new q) → here q ≡ new q
    → unwrap_or (changed_get E (map (λ k. let e : K × Option ℕ = (k, positive (here k)) in e) ks) kept q) 0 ≡ new q
count_stored {E = E} o old here new ks kept q was stays is = ap (λ (v : Option ℕ). unwrap_or v 0) (stored o (λ k. positive (here k)) ks kept q) ∙ by_test (list_any (E q) ks) refl
  where
    by_test : (b : Bool) → list_any (E q) ks ≡ b → unwrap_or (cond b (positive (here q)) (kept q)) 0 ≡ new q
    by_test true e = positive_is (here q) ∙ is
    by_test false e = was ∙ stays e

module _ (k : FactCounts) (n : Nets) (label : Text) (constants : Row) (ms : List (Move Fact)) (old new : List Fact) (h : IsChange k n label constants ms old new) (clean : first_clash label (present_of k n) ≡ None)
    (r : NewCounts) (ready : IsReady k n r) (after : FactCounts)
    (keys : (q : Row) → get row_eq after.keys q ≡ changed_get row_eq r.keys.items (get row_eq k.keys) q)
    (columns : (q : Text) → get text_eq after.columns q ≡ changed_get text_eq r.columns.items (get text_eq k.columns) q)
    (cells : (q : Place) → get place_eq after.cells q ≡ changed_get place_eq r.cells.items (get place_eq k.cells) q) where
  named : List Fact
  named = map (λ (m : Move Fact). m.key) ms

  keys_stored : (q : Row) → counted row_eq after.keys q ≡ count_by (bears_key q) new
  keys_stored q =
      ap (λ (v : Option ℕ). unwrap_or v 0) (keys q ∙ ap (λ cs. changed_get row_eq cs (get row_eq k.keys) q) ready.keys)
      ∙ count_stored row_order (λ p. count_by (bears_key p) old) (now k n).keys (λ p. count_by (bears_key p) new) (keys_of n.keys) (get row_eq k.keys) q (h.stands.keys q)
      (λ e. same_count old ms new h.moves (bears_key q) (sym (key_named q (map (λ (m : Move Fact). m.key) ms)) ∙ ap (list_any (row_eq q)) (sym (names k n label constants ms old new h).keys_are) ∙ e))
      (keys_after k n label constants ms old new h q)

  columns_stored : (q : Text) → counted text_eq after.columns q ≡ count_by (bears_column q) new
  columns_stored q =
      ap (λ (v : Option ℕ). unwrap_or v 0) (columns q ∙ ap (λ cs. changed_get text_eq cs (get text_eq k.columns) q) ready.columns)
      ∙ count_stored text_order (λ p. count_by (bears_column p) old) (now k n).columns (λ p. count_by (bears_column p) new) (keys_of n.columns) (get text_eq k.columns) q (h.stands.columns q)
      (λ e. same_count old ms new h.moves (bears_column q) (sym (column_named q (map (λ (m : Move Fact). m.key) ms)) ∙ ap (is_in q) (sym (names k n label constants ms old new h).columns_are) ∙ e))
      (columns_after k n label constants ms old new h q)

  has_left : (e : Entry) → list_any (place_eq e.0) (places_of (keys_of n.entries)) ≡ true → list_any (text_eq e.1) (option_to_list (lookup (place_eq e.0) (present_of k n))) ≡ has_entry new e
  has_left e there =
      found_among e.0 e.1 (present_of k n) (present_ascends label k n clean)
      ∙ any_present k old (counts_before k n label constants ms old new h) label n (map (λ (m : Move Fact). m.key) ms) new (beyond k n label constants ms old new h) (counts_now k n label constants ms old new h) (names k n label constants ms old new h) h.bear e
      ∙ ap (λ b. b && has_entry new e) there

  gone : (e : Entry) → has_entry new e ≡ false → count_by (bears_entry e) new ≡ 0
  gone e none = zero_counted (count_by (bears_entry e) new) (any_counted (bears_entry e) new ∙ none)

  held_stored : (e : Entry) → held after.cells e ≡ count_by (bears_entry e) new
  held_stored e =
      ap (λ (o : Option (Text × ℕ)). option_map_or (λ (v : Text × ℕ). if text_eq e.1 v.0 then v.1 else 0) o 0)
      (cells e.0 ∙ ap (λ cs. changed_get place_eq cs (get place_eq k.cells) e.0) ready.cells ∙ stored place_order (new_cell k n) (places_of (keys_of n.entries)) (get place_eq k.cells) e.0)
      ∙ by_place (list_any (place_eq e.0) (places_of (keys_of n.entries))) refl
    where
      by_found : (o : Option Text) → lookup (place_eq e.0) (present_of k n) ≡ o → list_any (text_eq e.1) (option_to_list o) ≡ has_entry new e
          → option_map_or (λ (v : Text × ℕ). if text_eq e.1 v.0 then v.1 else 0) (option_map (λ v. let c : Text × ℕ = (v, (now k n).entries (e.0, v)) in c) o) 0 ≡ count_by (bears_entry e) new
      by_found None t has = sym (gone e (sym has))
      by_found (Some v) t has = by_test (text_eq e.1 v) refl
        where
          by_test : (b : Bool) → text_eq e.1 v ≡ b → (if b then (now k n).entries (e.0, v) else 0) ≡ count_by (bears_entry e) new
          by_test true u = ap (λ (w : Text). (now k n).entries (e.0, w)) (sym (equal_is text_order e.1 v u)) ∙ entries_after k n label constants ms old new h e
          by_test false u = sym (gone e (sym has ∙ ap (λ b. b || false) u))

      by_place : (b : Bool) → list_any (place_eq e.0) (places_of (keys_of n.entries)) ≡ b
          → option_map_or (λ (v : Text × ℕ). if text_eq e.1 v.0 then v.1 else 0) (cond b (new_cell k n e.0) (get place_eq k.cells e.0)) 0 ≡ count_by (bears_entry e) new
      by_place true t = by_found (lookup (place_eq e.0) (present_of k n)) refl (has_left e t)
      by_place false t =
          h.stands.entries e ∙ same_count old ms new h.moves (bears_entry e)
          (not_named k old (counts_before k n label constants ms old new h) label n (map (λ (m : Move Fact). m.key) ms) new (beyond k n label constants ms old new h) (counts_now k n label constants ms old new h) (names k n label constants ms old new h) h.bear e.0 e.1 t)

  pub stands_after : Stands after new
  stands_after = record { keys = keys_stored; columns = columns_stored; entries = held_stored }
