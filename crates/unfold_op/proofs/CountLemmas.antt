-- Counts of facts before and after moves.
use Rattle.std.proofs.Common.{◌≡◌, ◌+◌, ◌-◌, ◌<◌, ◌≤◌, ◌^◌, ◌∷◌, [], ℕ, Bool, true, false, cond, List, Option, Some, None, refl, sym, ◌∙◌, ap, map, length, arith}
use Rattle.std.specs.Prelude.{not, ◌&&◌, ◌||◌, nat_lt, count_by, option_map}
use Rattle.std.specs.Option.{option_map_or}
use Rattle.std.specs.List.{list_any, filter_map, cons_option}
use Rattle.std.proofs.lemmas.Bool.{false≢true}
use Rattle.std.proofs.lemmas.List.Sums.{sum_by-cons, count_by-le-length}
use Rattle.ss_text.specs.Texts.{Text, Row, text_eq, row_eq, text_cmp, row_cmp}
use Rattle.ss_text.specs.Ascending.{ascending}
use Rattle.flow_law.specs.Facts.{Fact, column_of}
use Rattle.counts.specs.declared.moves.Move.{Move}
use Rattle.counts.specs.declared.tally.Tally.{Tally}
use Rattle.counts.specs.Counted.{counted, keys_of, ups_in, downs_in, after, CanMove}
use Rattle.unfold_op.specs.declared.facts.FactCounts.{FactCounts}
use Rattle.unfold_op.specs.declared.facts.Nets.{Nets}
use Rattle.unfold_op.specs.Touched.{Entry, entry_eq, entry_cmp, entry_of, bears_key, bears_column, bears_entry, SameBeyond}
use Rattle.unfold_op.specs.Kept.{Counts, Names, held}
use Rattle.unfold_op.specs.Nets.{before, now, CanMoveAll}
use Rattle.unfold_op.specs.Moves.{come_by, go_by, MovesFacts, key_moves, column_moves, entry_moves, IsChange}

pub any_counted : {A : Type 0} (p : A → Bool) (xs : List A) → nat_lt 0 (count_by p xs) ≡ list_any p xs
any_counted p [] = refl
any_counted p (x ∷ xs) = ap (nat_lt 0) (sum_by-cons _ x xs) ∙ by_test (p x) (any_counted p xs)
  where
    by_test : (b : Bool) → nat_lt 0 (count_by p xs) ≡ list_any p xs → nat_lt 0 (cond b 1 0 + count_by p xs) ≡ (b || list_any p xs)
    by_test true rest = grind arith
    by_test false rest =
        let none : cond false 1 0 + count_by p xs ≡ count_by p xs = omega arith in
        ap (nat_lt 0) none ∙ rest

pub none_moves : (p : Fact → Bool) (ms : List (Move Fact)) → list_any p (map (λ (m : Move Fact). m.key) ms) ≡ false → (come_by p ms ≡ 0) × (go_by p ms ≡ 0)
none_moves p [] h = (refl, refl)
none_moves p (m ∷ ms) h = by_test (p m.key) refl (λ rest. none_moves p ms rest)
  where
    first : (u b : Bool) → b ≡ false → ◌≡◌ {A = ℕ} (cond (u && b) 1 0) 0
    first true b e = rw e refl
    first false b e = refl

    by_test : (b : Bool) → p m.key ≡ b → (list_any p (map (λ (l : Move Fact). l.key) ms) ≡ false → (come_by p ms ≡ 0) × (go_by p ms ≡ 0)) → (come_by p (m ∷ ms) ≡ 0) × (go_by p (m ∷ ms) ≡ 0)
    by_test true e rest = absurd (false≢true (sym (rw e at h)))
    by_test false e rest =
        let r = rest (rw e at h) in
        (sum_by-cons _ m ms ∙ ap (λ n. n + come_by p ms) (first m.up (p m.key) e) ∙ omega (arith, r.0), sum_by-cons _ m ms ∙ ap (λ n. n + go_by p ms) (first (not m.up) (p m.key) e) ∙ omega (arith, r.1))

pub same_count : (old : List Fact) (ms : List (Move Fact)) (new : List Fact) → MovesFacts old ms new → (p : Fact → Bool) → list_any p (map (λ (m : Move Fact). m.key) ms) ≡ false → count_by p old ≡ count_by p new
same_count old ms new h p none = same (none_moves p ms none)
  where
    same : (come_by p ms ≡ 0) × (go_by p ms ≡ 0) → count_by p old ≡ count_by p new
    same z = omega (arith, z.0, z.1, h.counts p)

pub beyond_moves : (old : List Fact) (ms : List (Move Fact)) (new : List Fact) → MovesFacts old ms new → SameBeyond (map (λ (m : Move Fact). m.key) ms) old new
beyond_moves old ms new h = record { same = λ p none. sym (any_counted p old) ∙ ap (nat_lt 0) (same p (none_moves p ms none)) ∙ any_counted p new }
  where
    same : (p : Fact → Bool) → (come_by p ms ≡ 0) × (go_by p ms ≡ 0) → count_by p old ≡ count_by p new
    same p none = omega (arith, none.0, none.1, h.counts p)

-- moves of parts are moves of facts
module _ {K : Type 0} (eq : K → K → Bool) (part : Fact → Option K) (pick : Bool → Bool) where
  abbrev moves_of : List (Move Fact) → List (Move K)
  moves_of ms = filter_map (λ (m : Move Fact). option_map (λ k. let l : Move K = record { key = k; up = m.up } in l) (part m.key)) ms

  pub part_count : (q : K) (ms : List (Move Fact)) → count_by (λ (m : Move K). pick m.up && eq q m.key) (moves_of ms) ≡ count_by (λ (m : Move Fact). pick m.up && option_map_or (eq q) (part m.key) false) ms
  part_count q [] = refl
  part_count q (m ∷ ms) = by_part (part m.key) (part_count q ms) ∙ sym (sum_by-cons _ m ms)
    where
      none : (b : Bool) (n : ℕ) → n ≡ cond (b && false) 1 0 + n
      none true n = omega arith
      none false n = omega arith

      by_part : (o : Option K) → count_by (λ (l : Move K). pick l.up && eq q l.key) (moves_of ms) ≡ count_by (λ (l : Move Fact). pick l.up && option_map_or (eq q) (part l.key) false) ms
          → count_by (λ (l : Move K). pick l.up && eq q l.key) (cons_option (option_map (λ k. let l : Move K = record { key = k; up = m.up } in l) o) (moves_of ms))
          ≡ cond (pick m.up && option_map_or (eq q) o false) 1 0 + count_by (λ (l : Move Fact). pick l.up && option_map_or (eq q) (part l.key) false) ms
      by_part None rest = rest ∙ none (pick m.up) _
      by_part (Some k) rest = sum_by-cons _ (let l : Move K = record { key = k; up = m.up } in l) (moves_of ms) ∙ ap (λ n. cond (pick m.up && eq q k) 1 0 + n) rest

key_count : (pick : Bool → Bool) (q : Row) (ms : List (Move Fact)) → count_by (λ (m : Move Row). pick m.up && row_eq q m.key) (key_moves ms) ≡ count_by (λ (m : Move Fact). pick m.up && bears_key q m.key) ms
key_count pick q [] = refl
key_count pick q (m ∷ ms) = sum_by-cons _ (let l : Move Row = record { key = m.key.key; up = m.up } in l) (key_moves ms) ∙ ap (λ n. cond (pick m.up && row_eq q m.key.key) 1 0 + n) (key_count pick q ms) ∙ sym (sum_by-cons _ m ms)

column_bears : (q : Text) (f : Fact) → option_map_or (text_eq q) (column_of f) false ≡ bears_column q f
column_bears q f = by_cell f.cell
  where
    by_cell : (o : Option (Text × Text)) → option_map_or (text_eq q) (option_map (λ (c : Text × Text). c.0) o) false ≡ option_map_or (λ (c : Text × Text). text_eq q c.0) o false
    by_cell None = refl
    by_cell (Some c) = refl

column_count : (pick : Bool → Bool) (q : Text) (ms : List (Move Fact)) → count_by (λ (m : Move Text). pick m.up && text_eq q m.key) (column_moves ms) ≡ count_by (λ (m : Move Fact). pick m.up && bears_column q m.key) ms
column_count pick q ms = part_count text_eq column_of pick q ms ∙ ap (λ (f : Move Fact → Bool). count_by f ms) (λ i m. pick m.up && column_bears q m.key i)

-- a count after the moves
moved : (x c y g : ℕ) → x + c ≡ y + g → (x + c) - g ≡ y
moved x c y g h = omega (arith, h)

-- parts of facts that are counted, and moved
module _ {K : Type 0} (eq : K → K → Bool) (bears : K → Fact → Bool) (kept : K → ℕ) (old : List Fact) (ms : List (Move Fact)) (new : List Fact)
    (stands : (q : K) → kept q ≡ count_by (bears q) old) (h : MovesFacts old ms new) (small : length new < 2 ^ 128) where
  module _ (net : List (Tally K)) (come_is : (q : K) → ups_in eq net q ≡ come_by (bears q) ms) (go_is : (q : K) → downs_in eq net q ≡ go_by (bears q) ms) where
    pub can_move : CanMove eq kept net
    can_move = record {
      enough = λ q. rw (stands q, come_is q, go_is q) (enough _ _ _ _ (h.counts (bears q)));
      small = λ q. rw (stands q, come_is q, go_is q) (few q);
    }
      where
        enough : (x c y g : ℕ) → x + c ≡ y + g → g ≤ x + c
        enough x c y g e = omega (arith, e)

        few : (q : K) → count_by (bears q) old + come_by (bears q) ms < 2 ^ 128 + go_by (bears q) ms
        few q = omega (arith, h.counts (bears q), small, count_by-le-length (bears q) new)

    pub after_is : (q : K) → after eq kept net q ≡ count_by (bears q) new
    after_is q = rw (stands q, come_is q, go_is q) (moved (count_by (bears q) old) (come_by (bears q) ms) (count_by (bears q) new) (go_by (bears q) ms) (h.counts (bears q)))

-- what the moves name
columns_moved : (ms : List (Move Fact)) → map (λ (m : Move Text). m.key) (column_moves ms) ≡ filter_map column_of (map (λ (m : Move Fact). m.key) ms)
columns_moved [] = refl
columns_moved (m ∷ ms) = by_part (column_of m.key) (columns_moved ms)
  where
    by_part : (o : Option Text) → map (λ (l : Move Text). l.key) (column_moves ms) ≡ filter_map column_of (map (λ (l : Move Fact). l.key) ms)
        → map (λ (l : Move Text). l.key) (cons_option (option_map (λ k. let l : Move Text = record { key = k; up = m.up } in l) o) (column_moves ms)) ≡ cons_option o (filter_map column_of (map (λ (l : Move Fact). l.key) ms))
    by_part None rest = rest
    by_part (Some k) rest = ap (λ ks. k ∷ ks) rest

entries_moved : (ms : List (Move Fact)) → map (λ (m : Move Entry). m.key) (entry_moves ms) ≡ filter_map entry_of (map (λ (m : Move Fact). m.key) ms)
entries_moved [] = refl
entries_moved (m ∷ ms) = by_part (entry_of m.key) (entries_moved ms)
  where
    by_part : (o : Option Entry) → map (λ (l : Move Entry). l.key) (entry_moves ms) ≡ filter_map entry_of (map (λ (l : Move Fact). l.key) ms)
        → map (λ (l : Move Entry). l.key) (cons_option (option_map (λ k. let l : Move Entry = record { key = k; up = m.up } in l) o) (entry_moves ms)) ≡ cons_option o (filter_map entry_of (map (λ (l : Move Fact). l.key) ms))
    by_part None rest = rest
    by_part (Some k) rest = ap (λ ks. k ∷ ks) rest

keys_moved : (ms : List (Move Fact)) → map (λ (m : Move Row). m.key) (key_moves ms) ≡ map (λ (f : Fact). f.key) (map (λ (m : Move Fact). m.key) ms)
keys_moved [] = refl
keys_moved (m ∷ ms) = ap (λ ks. m.key.key ∷ ks) (keys_moved ms)

-- a change of what is kept
module _ (k : FactCounts) (n : Nets) (label : Text) (constants : Row) (ms : List (Move Fact)) (old new : List Fact) (h : IsChange k n label constants ms old new) where
  key_come : (q : Row) → ups_in row_eq n.keys q ≡ come_by (bears_key q) ms
  key_come q = h.nets.keys.come q ∙ key_count (λ b. b) q ms

  key_go : (q : Row) → downs_in row_eq n.keys q ≡ go_by (bears_key q) ms
  key_go q = h.nets.keys.go q ∙ key_count not q ms

  column_come : (q : Text) → ups_in text_eq n.columns q ≡ come_by (bears_column q) ms
  column_come q = h.nets.columns.come q ∙ column_count (λ b. b) q ms

  column_go : (q : Text) → downs_in text_eq n.columns q ≡ go_by (bears_column q) ms
  column_go q = h.nets.columns.go q ∙ column_count not q ms

  entry_come : (q : Entry) → ups_in entry_eq n.entries q ≡ come_by (bears_entry q) ms
  entry_come q = h.nets.entries.come q ∙ part_count entry_eq entry_of (λ b. b) q ms

  entry_go : (q : Entry) → downs_in entry_eq n.entries q ≡ go_by (bears_entry q) ms
  entry_go q = h.nets.entries.go q ∙ part_count entry_eq entry_of not q ms

  pub can_move_all : CanMoveAll k n
  can_move_all = record {
    keys = can_move row_eq bears_key (counted row_eq k.keys) old ms new h.stands.keys h.moves h.small n.keys key_come key_go;
    columns = can_move text_eq bears_column (counted text_eq k.columns) old ms new h.stands.columns h.moves h.small n.columns column_come column_go;
    entries = can_move entry_eq bears_entry (held k.cells) old ms new h.stands.entries h.moves h.small n.entries entry_come entry_go;
  }

  pub keys_after : (q : Row) → (now k n).keys q ≡ count_by (bears_key q) new
  keys_after = after_is row_eq bears_key (counted row_eq k.keys) old ms new h.stands.keys h.moves h.small n.keys key_come key_go

  pub columns_after : (q : Text) → (now k n).columns q ≡ count_by (bears_column q) new
  columns_after = after_is text_eq bears_column (counted text_eq k.columns) old ms new h.stands.columns h.moves h.small n.columns column_come column_go

  pub entries_after : (q : Entry) → (now k n).entries q ≡ count_by (bears_entry q) new
  entries_after = after_is entry_eq bears_entry (held k.cells) old ms new h.stands.entries h.moves h.small n.entries entry_come entry_go

  pub counts_before : Counts (before k) old
  counts_before = record {
    keys = λ q. ap (nat_lt 0) (h.stands.keys q) ∙ any_counted (bears_key q) old;
    columns = λ q. ap (nat_lt 0) (h.stands.columns q) ∙ any_counted (bears_column q) old;
    entries = λ q. ap (nat_lt 0) (h.stands.entries q) ∙ any_counted (bears_entry q) old;
  }

  pub counts_now : Counts (now k n) new
  counts_now = record {
    keys = λ q. ap (nat_lt 0) (keys_after q) ∙ any_counted (bears_key q) new;
    columns = λ q. ap (nat_lt 0) (columns_after q) ∙ any_counted (bears_column q) new;
    entries = λ q. ap (nat_lt 0) (entries_after q) ∙ any_counted (bears_entry q) new;
  }

  pub names : Names (keys_of n.keys) (keys_of n.columns) (keys_of n.entries) (map (λ (m : Move Fact). m.key) ms)
  names = record {
    keys_are = h.nets.keys_named ∙ ap (ascending row_cmp) (keys_moved ms);
    columns_are = h.nets.columns_named ∙ ap (ascending text_cmp) (columns_moved ms);
    entries_are = h.nets.entries_named ∙ ap (ascending entry_cmp) (entries_moved ms);
  }

  pub beyond : SameBeyond (map (λ (m : Move Fact). m.key) ms) old new
  beyond = beyond_moves old ms new h.moves
