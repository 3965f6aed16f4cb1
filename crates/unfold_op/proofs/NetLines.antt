-- The lines made of counts are those of the facts that they count.
use Rattle.std.proofs.Common.{◌≡◌, ◌∷◌, [], ℕ, zero, suc, Bool, true, false, cond, List, Option, Some, None, refl, sym, ◌∙◌, ap, map, arith}
use Rattle.std.specs.Prelude.{not, ◌==◌, ◌&&◌, ◌||◌, nat_lt, filter, unwrap_or, option_map, option_to_list, if◌then◌else◌}
use Rattle.std.specs.Option.{option_map_or}
use Rattle.std.specs.List.{list_any, filter_map, cons_option, AllByRecursion}
use Rattle.indexmap.specs.IndexMap.{get}
use Rattle.ss_text.specs.Texts.{Text, text_eq}
use Rattle.ss_text.specs.Ascending.{ascending}
use Rattle.ss_text.proofs.KeyLemmas.{text_order, equal_is}
use Rattle.ss_text.proofs.PairLemmas.{any_ascending, each_found}
use Rattle.ss_text.proofs.SetLemmas.{same_ascending, same_back, same_map, ascending_of_same}
use Rattle.flow_law.specs.Facts.{Fact}
use Rattle.flow_law.specs.FactTables.{value_for}
use Rattle.flow_law.specs.declared.line.TableLine.TheVariants.{Cell}
use Rattle.counts.specs.Counted.{keys_of, goes}
use Rattle.unfold_op.specs.declared.facts.FactCounts.{FactCounts}
use Rattle.unfold_op.specs.declared.facts.Nets.{Nets}
use Rattle.unfold_op.specs.Touched.{Place, Entry, place_cmp, place_eq, entry_eq, entry_of, place_of, has_key, has_column, places_named, entries_named, value_moves, touched_lines, SameBeyond}
use Rattle.unfold_op.specs.Kept.{held_at, value_held, value_among, places_of, place_line, first_clash, Counts, Names}
use Rattle.unfold_op.specs.Nets.{before, now, present_of, net_lines}
use Rattle.unfold_op.proofs.TouchedLines.{place_order}
use Rattle.unfold_op.proofs.Present.{entry_order, has_entry, value_is, value_left, left}
use Rattle.unfold_op.proofs.Clashes.{present_ascends}

filter_same : {A : Type 0} (p q : A → Bool) → ((x : A) → p x ≡ q x) → (xs : List A) → filter p xs ≡ filter q xs
filter_same p q h xs = ap (λ f. filter f xs) (λ i x. h x i)

zero_test : (m : ℕ) → (m == 0) ≡ not (nat_lt 0 m)
zero_test zero = refl
zero_test (suc m) = grind arith

pub goes_is : {K : Type 0} (first later : K → ℕ) (there here : K → Bool) → ((k : K) → nat_lt 0 (first k) ≡ there k) → ((k : K) → nat_lt 0 (later k) ≡ here k) → (xs : List K)
    → filter (goes first later) xs ≡ filter (λ k. there k && not (here k)) xs
goes_is first later there here h i xs = filter_same (goes first later) (λ k. there k && not (here k)) (λ k. rw (h k, zero_test (later k), i k) refl) xs

given_if : {A B : Type 0} (f : A → Option B) (q : A → Bool) (line : A → B) (xs : List A) → AllByRecursion (λ x. f x ≡ (if q x then Some (line x) else None)) xs → filter_map f xs ≡ map line (filter q xs)
given_if f q line [] h = refl
given_if {A = A} {B = B} f q line (x ∷ xs) h = rw h.0 (by_test (q x) (given_if f q line xs h.1))
  where
    by_test : (b : Bool) → filter_map f xs ≡ map line (filter q xs) → cons_option (if b then Some (line x) else None) (filter_map f xs) ≡ map line (cond b (x ∷ filter q xs) (filter q xs))
    by_test true rest = ap (λ ls. line x ∷ ls) rest
    by_test false rest = rest

-- the named entries and their places
any_entry : (e : Entry) (fs : List Fact) → list_any (entry_eq e) (filter_map entry_of fs) ≡ has_entry fs e
any_entry e [] = refl
any_entry e (f ∷ fs) = by_entry (entry_of f) (any_entry e fs)
  where
    by_entry : (o : Option Entry) → list_any (entry_eq e) (filter_map entry_of fs) ≡ has_entry fs e → list_any (entry_eq e) (cons_option o (filter_map entry_of fs)) ≡ option_map_or (entry_eq e) o false || has_entry fs e
    by_entry None rest = rest
    by_entry (Some d) rest = ap (λ b. entry_eq e d || b) rest

first_of : (fs : List Fact) → map (λ (e : Entry). e.0) (filter_map entry_of fs) ≡ filter_map place_of fs
first_of [] = refl
first_of (f ∷ fs) = by_entry (entry_of f) (first_of fs)
  where
    by_entry : (o : Option Entry) → map (λ (e : Entry). e.0) (filter_map entry_of fs) ≡ filter_map place_of fs → map (λ (e : Entry). e.0) (cons_option o (filter_map entry_of fs)) ≡ cons_option (option_map (λ (e : Entry). e.0) o) (filter_map place_of fs)
    by_entry None rest = rest
    by_entry (Some e) rest = ap (λ ps. e.0 ∷ ps) rest

named_places : (fs : List Fact) → places_of (entries_named fs) ≡ places_named fs
named_places fs =
    ascending_of_same place_order.total place_order.same (map (λ (e : Entry). e.0) (entries_named fs)) (map (λ (e : Entry). e.0) (filter_map entry_of fs))
    (same_map (λ (e : Entry). e.0) (entries_named fs) (filter_map entry_of fs) (same_back (filter_map entry_of fs) (entries_named fs) (same_ascending entry_order.total entry_order.same (filter_map entry_of fs))))
    ∙ ap (ascending place_cmp) (first_of fs)

module _ (k : FactCounts) (old : List Fact) (counts : Counts (before k) old) where
  -- the kept value
  abbrev pub one_kept : Option (Text × ℕ) → Option Text
  one_kept None = None
  one_kept (Some h) = if nat_lt 0 h.1 then Some h.0 else None

  pub one_value : (p : Place) (v : Text) → has_entry old (p, v) ≡ list_any (text_eq v) (option_to_list (one_kept (get place_eq k.cells p)))
  one_value p v = sym (counts.entries (p, v)) ∙ there (get place_eq k.cells p)
    where
      there : (o : Option (Text × ℕ)) → nat_lt 0 (option_map_or (λ (h : Text × ℕ). if text_eq v h.0 then h.1 else 0) o 0) ≡ list_any (text_eq v) (option_to_list (one_kept o))
      there None = refl
      there (Some h) = by_tests (text_eq v h.0) refl (nat_lt 0 h.1) refl
        where
          by_tests : (a : Bool) → text_eq v h.0 ≡ a → (b : Bool) → nat_lt 0 h.1 ≡ b → nat_lt 0 (if a then h.1 else 0) ≡ list_any (text_eq v) (option_to_list (if b then Some h.0 else None))
          by_tests true s true t = rw (s, t) refl
          by_tests true s false t = t
          by_tests false s true t = rw s refl
          by_tests false s false t = refl

  kept_value : (p : Place) → value_for old p.0 p.1 ≡ value_held k.cells p
  kept_value p = value_is old p (one_kept (get place_eq k.cells p)) (one_value p) ∙ given (get place_eq k.cells p)
    where
      given : (o : Option (Text × ℕ)) → unwrap_or (one_kept o) [] ≡ option_map_or (λ (h : Text × ℕ). if nat_lt 0 h.1 then h.0 else []) o []
      given None = refl
      given (Some h) = by_test (nat_lt 0 h.1)
        where
          by_test : (b : Bool) → unwrap_or (if b then Some h.0 else None) [] ≡ (if b then h.0 else [])
          by_test true = refl
          by_test false = refl

  pub own : (p : Place) (e : Entry) → held_at k.cells p ≡ Some e → e.0 ≡ p
  own p e h = by_answer (get place_eq k.cells p) h
    where
      by_answer : (o : Option (Text × ℕ)) → option_map (λ (h : Text × ℕ). let d : Entry = (p, h.0) in d) o ≡ Some e → e.0 ≡ p
      by_answer None h = absurd (cc)
      by_answer (Some v) h =
          let same : (let d : Entry = (p, v.0) in d) ≡ e = cc in
          ap (λ (d : Entry). d.0) (sym same)

  pub one : (e : Entry) → has_entry old e ≡ true → held_at k.cells e.0 ≡ Some e
  one e h = by_answer (get place_eq k.cells e.0) (counts.entries e ∙ h)
    where
      by_answer : (o : Option (Text × ℕ)) → nat_lt 0 (option_map_or (λ (h : Text × ℕ). if text_eq e.1 h.0 then h.1 else 0) o 0) ≡ true → option_map (λ (h : Text × ℕ). let d : Entry = (e.0, h.0) in d) o ≡ Some e
      by_answer None h = absurd (cc)
      by_answer (Some v) h = by_test (text_eq e.1 v.0) refl h
        where
          by_test : (b : Bool) → text_eq e.1 v.0 ≡ b → nat_lt 0 (if b then v.1 else 0) ≡ true → Some (let d : Entry = (e.0, v.0) in d) ≡ Some e
          by_test true s h = ap (λ (w : Text). Some (let d : Entry = (e.0, w) in d)) (sym (equal_is text_order e.1 v.0 s))
          by_test false s h = absurd (cc)

  module _ (label : Text) (n : Nets) (named new : List Fact) (beyond : SameBeyond named old new) (after : Counts (now k n) new)
      (names : Names (keys_of n.keys) (keys_of n.columns) (keys_of n.entries) named) where
    abbrev pub es : List Entry
    es = (keys_of n.entries)

    pub are_named : (e : Entry) → list_any (entry_eq e) es ≡ has_entry named e
    are_named e = ap (list_any (entry_eq e)) names.entries_are ∙ any_ascending entry_order e (filter_map entry_of named) ∙ any_entry e named

    pub present_is : present_of k n ≡ left named old new beyond (held_at k.cells) own one es are_named
    present_is = filter_same (λ e. nat_lt 0 ((now k n).entries e)) (has_entry new) after.entries _

    module _ (clean : first_clash label (present_of k n) ≡ None) where
      new_value : (p : Place) → list_any (place_eq p) (places_of es) ≡ true → value_for new p.0 p.1 ≡ value_among (present_of k n) p
      new_value p there =
          rw present_is (value_left named old new beyond (held_at k.cells) own one es are_named p (rw present_is at (present_ascends label k n clean)) there)

      line_at : (p : Place) → list_any (place_eq p) (places_of es) ≡ true
          → place_line label (now k n).keys (now k n).columns (value_held k.cells) (value_among (present_of k n)) p ≡ (if value_moves old new p then Some (Cell label p.1 (value_for new p.0 p.1) p.0) else None)
      line_at p there = rw (sym (kept_value p), sym (new_value p there), after.keys p.0, after.columns p.1) refl

      cell_lines : filter_map (place_line label (now k n).keys (now k n).columns (value_held k.cells) (value_among (present_of k n))) (places_of es)
          ≡ map (λ (p : Place). Cell label p.1 (value_for new p.0 p.1) p.0) (filter (value_moves old new) (places_named named))
      cell_lines =
          given_if _ (value_moves old new) (λ (p : Place). Cell label p.1 (value_for new p.0 p.1) p.0) (places_of es) (each_found place_order _ (places_of es) line_at)
          ∙ ap (λ ps. map (λ (p : Place). Cell label p.1 (value_for new p.0 p.1) p.0) (filter (value_moves old new) ps)) (ap places_of names.entries_are ∙ named_places named)

      pub net_lines_touched : net_lines label k n ≡ touched_lines label named old new
      net_lines_touched =
          rw (
            goes_is (before k).keys (now k n).keys (has_key old) (has_key new) counts.keys after.keys (keys_of n.keys),
            goes_is (before k).columns (now k n).columns (has_column old) (has_column new) counts.columns after.columns (keys_of n.columns),
            goes_is (now k n).columns (before k).columns (has_column new) (has_column old) after.columns counts.columns (keys_of n.columns),
            goes_is (now k n).keys (before k).keys (has_key new) (has_key old) after.keys counts.keys (keys_of n.keys),
            cell_lines,
            names.keys_are,
            names.columns_are,
          ) refl
