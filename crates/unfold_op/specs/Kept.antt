-- What is kept of the facts of one table, and what a change leaves of the values.
use Rattle.std.specs.Prelude.{◌≡◌, ℕ, not, ◌&&◌, nat_lt, ◌++◌, [], ◌∷◌, map, filter, Option, None, Some, List, option_map, unwrap_or, if◌then◌else◌}
use Rattle.std.specs.Option.{option_map_or, option_or}
use Rattle.std.specs.List.{list_any, find}
use Rattle.std.specs.Map.{lookup}
use Rattle.ss_text.specs.Texts.{Text, Row, text_eq}
use Rattle.ss_text.specs.Ascending.{ascending}
use Rattle.indexmap.specs.IndexMap.{IndexMap, get}
use Rattle.flow_law.specs.declared.refused.Clash.{Clash}
use Rattle.flow_law.specs.declared.refused.IllegalLabel.{IllegalLabel}
use Rattle.ss_text.specs.Label.{is_column_label}
use Rattle.flow_law.specs.declared.line.TableLine.{TableLine}
use Rattle.flow_law.specs.declared.line.TableLine.TheVariants.{RowMinus, ColumnMinus, ColumnPlus, RowPlus, Cell}
use Rattle.counts.specs.Counted.{goes}
use Rattle.flow_law.specs.Facts.{Fact}
use Rattle.unfold_op.specs.Touched.{Place, Entry, place_eq, place_cmp, bears_entry, has_key, has_column, keys_named, columns_named, entries_named}

module _ {S : Type 0} (cells : IndexMap Place (Text × ℕ) S) where
  -- how often an entry is kept
  abbrev pub held : Entry → ℕ
  held e = option_map_or (λ (h : Text × ℕ). if text_eq e.1 h.0 then h.1 else 0) (get place_eq cells e.0) 0

  -- how often the value of a place is kept
  abbrev pub times_at : Place → ℕ
  times_at p = option_map_or (λ (h : Text × ℕ). h.1) (get place_eq cells p) 0

  -- the entry that is kept at a place
  abbrev pub held_at : Place → Option Entry
  held_at p = option_map (λ (h : Text × ℕ). (p, h.0)) (get place_eq cells p)

  -- the value that is kept at a place, empty where none is
  abbrev pub value_held : Place → Text
  value_held p = option_map_or (λ (h : Text × ℕ). if nat_lt 0 h.1 then h.0 else []) (get place_eq cells p) []

-- the places of entries, each once, ascending
abbrev pub places_of : List Entry → List Place
places_of es = ascending place_cmp (map (λ (e : Entry). e.0) es)

-- the value of a place among entries, empty where it has none
abbrev pub value_among : List Entry → Place → Text
value_among es p = unwrap_or (lookup (place_eq p) es) []

-- the clash of two neighbours, and the first of all
abbrev pub clash_of_two : Text → Entry → Entry → Option Clash
clash_of_two label e d = if place_eq e.0 d.0 then Some (record { table = label; column = e.0.1; first = e.1; second = d.1; key = e.0.0 }) else None

abbrev pub first_clash : Text → List Entry → Option Clash
first_clash label [] = None
first_clash label (e ∷ []) = None
first_clash label (e ∷ d ∷ es) = option_or (clash_of_two label e d) (first_clash label (d ∷ es))

-- the line for a place, where its row and its column are there after the change and its value is another than before
abbrev pub place_line : Text → (Row → ℕ) → (Text → ℕ) → (Place → Text) → (Place → Text) → Place → Option TableLine
place_line label keys columns old new p =
    if nat_lt 0 (keys p.0) && nat_lt 0 (columns p.1) && not (text_eq (old p) (new p)) then Some (Cell label p.1 (new p) p.0) else None

-- the counts of keys, columns and entries at one time
pub record Tallies : Type 0 where
  pub keys : Row → ℕ
  pub columns : Text → ℕ
  pub entries : Entry → ℕ

-- whether they count above 0 what facts have
pub record Counts (t : Tallies) (fs : List Fact) : Type 0 where
  pub keys : (k : Row) → nat_lt 0 (t.keys k) ≡ has_key fs k
  pub columns : (c : Text) → nat_lt 0 (t.columns c) ≡ has_column fs c
  pub entries : (e : Entry) → nat_lt 0 (t.entries e) ≡ list_any (bears_entry e) fs

-- the keys, the columns and the entries that a change names
pub record Names (keys : List Row) (columns : Row) (entries : List Entry) (named : List Fact) : Type 0 where
  pub keys_are : keys ≡ keys_named named
  pub columns_are : columns ≡ columns_named named
  pub entries_are : entries ≡ entries_named named

-- the lines for the named keys and columns, before those for cells
abbrev pub outer_lines : Text → Tallies → Tallies → List Row → Row → List TableLine
outer_lines label old new keys columns =
    map (λ key. RowMinus label key) (filter (goes old.keys new.keys) keys)
    ++ map (λ column. ColumnMinus label column) (filter (goes old.columns new.columns) columns)
    ++ map (λ column. ColumnPlus label column) (filter (goes new.columns old.columns) columns)
    ++ map (λ key. RowPlus label key) (filter (goes new.keys old.keys) keys)

-- the first column that is not legal, as the label for which the facts are refused
abbrev pub first_illegal : Text → Row → Row → Option IllegalLabel
first_illegal label constants columns = option_map (λ column. record { table = label; column = Some column }) (find (λ column. not (is_column_label column constants)) columns)
