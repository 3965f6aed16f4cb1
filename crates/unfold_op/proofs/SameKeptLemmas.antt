-- What keeps the same moves alike.
use Rattle.std.proofs.Common.{◌≡◌, ◌+◌, ◌-◌, ℕ, List, Option, sym, ◌∙◌, ap, subst, map, ◌++◌}
use Rattle.std.specs.Prelude.{nat_lt, filter, unwrap_or, option_map, if◌then◌else◌}
use Rattle.std.specs.Option.{option_map_or}
use Rattle.std.specs.List.{filter_map}
use Rattle.std.specs.List.Sorted.{IsStrictlySortedBy}
use Rattle.ss_text.specs.Texts.{Text, Row, text_eq, row_eq}
use Rattle.ss_text.specs.Ascending.{ascending}
use Rattle.counts.specs.Counted.{keys_of, ups_in, downs_in, CanMove}
use Rattle.unfold_op.specs.declared.facts.FactCounts.{FactCounts}
use Rattle.unfold_op.specs.declared.facts.Nets.{Nets}
use Rattle.unfold_op.specs.Touched.{Entry, place_cmp, entry_cmp, entry_eq}
use Rattle.unfold_op.specs.Kept.{held, held_at, places_of}
use Rattle.unfold_op.specs.Nets.{CanMoveAll, present_of}
use Rattle.unfold_op.specs.Stored.{SameKept}
use Rattle.unfold_op.specs.Moves.{Stands}
use Rattle.flow_law.specs.Facts.{Fact}

held_same : (k l : FactCounts) → SameKept k l → held k.cells ≡ held l.cells
held_same k l h = λ i e. option_map_or (λ (v : Text × ℕ). if text_eq e.1 v.0 then v.1 else 0) (sym (h.cells e.0) i) 0

held_at_same : (k l : FactCounts) → SameKept k l → held_at k.cells ≡ held_at l.cells
held_at_same k l h = λ i p. option_map (λ (v : Text × ℕ). let e : Entry = (p, v.0) in e) (sym (h.cells p) i)

pub present_is_same : (k l : FactCounts) (n : Nets) → SameKept k l → present_of k n ≡ present_of l n
present_is_same k l n h = λ i.
    filter (λ e. nat_lt 0 ((held_same k l h i e + ups_in entry_eq n.entries e) - downs_in entry_eq n.entries e)) (ascending entry_cmp ((keys_of n.entries) ++ filter_map (held_at_same k l h i) (places_of (keys_of n.entries))))

pub present_same : (k l : FactCounts) (n : Nets) → SameKept k l → IsStrictlySortedBy place_cmp (map (λ (e : Entry). e.0) (present_of k n)) → IsStrictlySortedBy place_cmp (map (λ (e : Entry). e.0) (present_of l n))
present_same k l n h s = subst (λ (es : List Entry). IsStrictlySortedBy place_cmp (map (λ (e : Entry). e.0) es)) (present_is_same k l n h) s

pub can_move_same : (k l : FactCounts) (n : Nets) → SameKept k l → CanMoveAll k n → CanMoveAll l n
can_move_same k l n h m = record {
  keys = subst (λ (f : Row → ℕ). CanMove row_eq f n.keys) (λ i q. unwrap_or (sym (h.keys q) i) 0) m.keys;
  columns = subst (λ (f : Text → ℕ). CanMove text_eq f n.columns) (λ i q. unwrap_or (sym (h.columns q) i) 0) m.columns;
  entries = subst (λ (f : Entry → ℕ). CanMove entry_eq f n.entries) (held_same k l h) m.entries;
}

pub stands_same : (k l : FactCounts) (fs : List Fact) → SameKept k l → Stands k fs → Stands l fs
stands_same k l fs h s = record {
  keys = λ q. ap (λ (o : Option ℕ). unwrap_or o 0) (h.keys q) ∙ s.keys q;
  columns = λ q. ap (λ (o : Option ℕ). unwrap_or o 0) (h.columns q) ∙ s.columns q;
  entries = λ e. ap (λ (f : Entry → ℕ). f e) (sym (held_same k l h)) ∙ s.entries e;
}

pub same_back : (k l : FactCounts) → SameKept k l → SameKept l k
same_back k l h = record { keys = λ q. sym (h.keys q); columns = λ q. sym (h.columns q); cells = λ q. sym (h.cells q) }
