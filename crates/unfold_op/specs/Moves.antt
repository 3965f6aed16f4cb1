-- Facts that come and go, and what is kept of facts.
use Rattle.std.specs.Prelude.{◌≡◌, ℕ, ◌+◌, ◌<◌, ◌^◌, Bool, true, not, ◌&&◌, List, ◌∷◌, None, length, map, count_by, option_map}
use Rattle.std.specs.List.{filter_map}
use Rattle.ss_text.specs.Texts.{Text, Row, text_eq, row_eq}
use Rattle.ss_text.specs.Ascending.{ascending}
use Rattle.ss_text.specs.Texts.{text_cmp, row_cmp}
use Rattle.ss_text.specs.Label.{is_column_label}
use Rattle.flow_law.specs.Facts.{Fact, column_of, conflict}
use Rattle.flow_law.specs.Labelled.{AllBear}
use Rattle.counts.specs.declared.moves.Move.{Move}
use Rattle.counts.specs.Counted.{counted, keys_of, IsNet}
use Rattle.unfold_op.specs.declared.facts.FactCounts.{FactCounts}
use Rattle.unfold_op.specs.declared.facts.Nets.{Nets}
use Rattle.unfold_op.specs.Touched.{Entry, entry_eq, entry_cmp, entry_of, bears_key, bears_column, bears_entry, has_column}
use Rattle.unfold_op.specs.Kept.{held}

-- how many moves of a fact that passes a test go up, and how many go down
abbrev pub come_by : (Fact → Bool) → List (Move Fact) → ℕ
come_by p ms = count_by (λ (m : Move Fact). m.up && p m.key) ms

abbrev pub go_by : (Fact → Bool) → List (Move Fact) → ℕ
go_by p ms = count_by (λ (m : Move Fact). not m.up && p m.key) ms

-- the moves take the old facts to the new ones, as bags
pub record MovesFacts (old : List Fact) (ms : List (Move Fact)) (new : List Fact) : Type 0 where
  pub counts : (p : Fact → Bool) → count_by p old + come_by p ms ≡ count_by p new + go_by p ms

-- the moves of keys, of columns and of entries
abbrev pub key_moves : List (Move Fact) → List (Move Row)
key_moves ms = map (λ (m : Move Fact). record { key = m.key.key; up = m.up }) ms

abbrev pub column_moves : List (Move Fact) → List (Move Text)
column_moves ms = filter_map (λ (m : Move Fact). option_map (λ c. record { key = c; up = m.up }) (column_of m.key)) ms

abbrev pub entry_moves : List (Move Fact) → List (Move Entry)
entry_moves ms = filter_map (λ (m : Move Fact). option_map (λ e. record { key = e; up = m.up }) (entry_of m.key)) ms

-- what is kept stands for these facts
pub record Stands (k : FactCounts) (fs : List Fact) : Type 0 where
  pub keys : (key : Row) → counted row_eq k.keys key ≡ count_by (bears_key key) fs
  pub columns : (column : Text) → counted text_eq k.columns column ≡ count_by (bears_column column) fs
  pub entries : (e : Entry) → held k.cells e ≡ count_by (bears_entry e) fs

-- a fact comes to others, for which this stands: they bear one label, do not conflict, and can be counted
pub record CanCount (k : FactCounts) (f : Fact) (fs : List Fact) : Type 0 where
  pub stands : Stands k fs
  pub few : length (f ∷ fs) < 2 ^ 128
  pub bear : AllBear f.label (f ∷ fs)
  pub clean : conflict (f ∷ fs) ≡ None

-- the nets are those of these moves
pub record AreNets (n : Nets) (ms : List (Move Fact)) : Type 0 where
  pub keys : IsNet row_eq (key_moves ms) n.keys
  pub columns : IsNet text_eq (column_moves ms) n.columns
  pub entries : IsNet entry_eq (entry_moves ms) n.entries
  pub keys_named : keys_of n.keys ≡ ascending row_cmp (map (λ (m : Move Row). m.key) (key_moves ms))
  pub columns_named : keys_of n.columns ≡ ascending text_cmp (map (λ (m : Move Text). m.key) (column_moves ms))
  pub entries_named : keys_of n.entries ≡ ascending entry_cmp (map (λ (m : Move Entry). m.key) (entry_moves ms))

-- a change of the kept facts of one table, whose columns were legal before
pub record IsChange (k : FactCounts) (n : Nets) (label : Text) (constants : Row) (ms : List (Move Fact)) (old new : List Fact) : Type 0 where
  pub stands : Stands k old
  pub nets : AreNets n ms
  pub moves : MovesFacts old ms new
  pub small : length new < 2 ^ 128
  pub bear : AllBear label new
  pub legal : (c : Text) → has_column old c ≡ true → is_column_label c constants ≡ true
