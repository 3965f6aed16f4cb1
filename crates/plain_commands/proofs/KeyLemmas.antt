-- The keys of tables to which lines are applied.
use Rattle.std.proofs.Common.{◌≡◌, ◌≢◌, ◌==◌, ◌∷◌, [], List, Bool, true, false, Option, None, Some, Bor, is_some, cond, refl, ap, subst, length, map, inl, inr}
use Rattle.std.specs.Prelude.{Ok}
use Rattle.std.specs.Option.{option_copied}
use Rattle.std.specs.List.{AllByRecursion}
use Rattle.std.proofs.lemmas.Bool.{cases_Bool, eqb-true}
use Rattle.ss_text.specs.Texts.{Text, Row, text_eq}
use Rattle.ss_text.specs.Places.{changed_where}
use Rattle.std.proofs.lemmas.Cmp.{on_total}
use Rattle.ss_text.proofs.KeyLemmas.{text_order, row_order}
use Rattle.ss_text.proofs.GroupLemmas.{all_filter, all_with}
use Rattle.flow_law.specs.declared.shape.Shape.{Shape}
use Rattle.flow_law.specs.declared.line.TableLine.{TableLine}
use Rattle.flow_law.specs.declared.line.TableLine.TheVariants.{TableMinus, TablePlus, RowMinus, ColumnMinus, ColumnPlus, RowPlus, Cell}
use Rattle.flow_law.specs.Tables.{TableValue, TablesValue, empty_table}
use Rattle.flow_law.specs.Lines.{table_after, at_table, after_line, label_of}
use Rattle.change_script.specs.declared.applying.ApplyFault.{ApplyFault}
use Rattle.change_script.specs.Applied.{wrong_key, key_fault, line_fault, unless, applied_line}
use Rattle.view_folder.specs.TableFiles.{FitShape}
use Rattle.view_folder.specs.Held.{KeysFit, AllKeysFit}

-- what is borrowed is there where it is
pub copied_there : (o : Option (Bor TableValue)) (t : Option TableValue) → option_copied o ≡ t → is_some o ≡ is_some t
copied_there None t e = ap is_some e
copied_there (Some x) t e = ap is_some e

-- keys with a text for each constant column have a text
pub fit_by_keys : (shape : Shape) (ts : TablesValue) → shape.constants ≢ [] → AllKeysFit shape ts → FitShape shape ts
fit_by_keys shape [] some h = tt
fit_by_keys shape (p ∷ ps) some h = (record { some = some; keys = keys p.1.rows h.0 }, fit_by_keys shape ps some h.1)
  where
    not_empty : (key constants : Row) → constants ≢ [] → length key ≡ length constants → key ≢ []
    not_empty key [] some e is = some refl
    not_empty key (x ∷ xs) some e is = cc (rw is at e)

    keys : (rs : List (Row × Row)) → AllByRecursion (λ (r : Row × Row). length r.0 ≡ length shape.constants) rs → AllByRecursion (λ (r : Row × Row). r.0 ≢ []) rs
    keys [] h = tt
    keys (r ∷ rs) h = (not_empty r.0 shape.constants some h.0, keys rs h.1)

-- what holds of each element that is changed holds after
all_changed : {A : Type 0} (P : A → Type 0) (p : A → Bool) (f : A → A) → ((x : A) → P x → P (f x)) → (xs : List A) → AllByRecursion P xs → AllByRecursion P (changed_where p f xs)
all_changed P p f keeps [] h = tt
all_changed P p f keeps (x ∷ xs) h = (by_test (p x), all_changed P p f keeps xs h.1)
  where
    by_test : (b : Bool) → P (cond b (f x) x)
    by_test true = keeps x h.0
    by_test false = h.0

all_map : {A : Type 0} (P : A → Type 0) (f : A → A) → ((x : A) → P x → P (f x)) → (xs : List A) → AllByRecursion P xs → AllByRecursion P (map f xs)
all_map P f keeps [] h = tt
all_map P f keeps (x ∷ xs) h = (keeps x h.0, all_map P f keeps xs h.1)

module _ (shape : Shape) where
  abbrev Keyed : Row × Row → Type 0
  Keyed r = length r.0 ≡ length shape.constants

  key_length : (key : Row) → wrong_key shape.constants key ≡ None → length key ≡ length shape.constants
  key_length key e = elim (cases_Bool (length key == length shape.constants)) [
    | inl fits ↦ eqb-true (length key) (length shape.constants) fits
    | inr other ↦ cc (rw other at e)
  ]

  keys_after : (line : TableLine) (t : TableValue) → key_fault shape.constants line ≡ None → KeysFit shape t → KeysFit shape (table_after line t)
  keys_after (TableMinus label) t e h = h
  keys_after (TablePlus label) t e h = h
  keys_after (RowMinus label key) t e h = all_filter Keyed _ t.rows h
  keys_after (ColumnMinus label column) t e h = all_map Keyed _ (λ r k. k) t.rows h
  keys_after (ColumnPlus label column) t e h = all_map Keyed _ (λ r k. k) t.rows h
  keys_after (RowPlus label key) t e h = all_with (on_total (λ (r : Row × Row). r.0) row_order.total) Keyed _ t.rows (key_length key e) h
  keys_after (Cell label column value key) t e h = all_changed Keyed _ _ (λ r k. k) t.rows h

  abbrev Fits : Text × TableValue → Type 0
  Fits p = KeysFit shape p.1

  at_label : (line : TableLine) (ts : TablesValue) → key_fault shape.constants line ≡ None → AllKeysFit shape ts → AllKeysFit shape (at_table (label_of line) (table_after line) ts)
  at_label line ts e h = all_changed Fits (λ (p : Text × TableValue). text_eq (label_of line) p.0) (λ p. (p.0, table_after line p.1)) (λ p k. keys_after line p.1 e k) ts h

  after : (line : TableLine) (ts : TablesValue) → key_fault shape.constants line ≡ None → AllKeysFit shape ts → AllKeysFit shape (after_line ts line)
  after (TableMinus label) ts e h = all_filter Fits _ ts h
  after (TablePlus label) ts e h = all_with (on_total (λ (p : Text × TableValue). p.0) text_order.total) Fits (label, empty_table) ts tt h
  after (RowMinus label key) ts e h = at_label (RowMinus label key) ts e h
  after (ColumnMinus label column) ts e h = at_label (ColumnMinus label column) ts e h
  after (ColumnPlus label column) ts e h = at_label (ColumnPlus label column) ts e h
  after (RowPlus label key) ts e h = at_label (RowPlus label key) ts e h
  after (Cell label column value key) ts e h = at_label (Cell label column value key) ts e h

  -- a line that is applied keeps them
  pub keys_fit_after : (line : TableLine) (ts us : TablesValue) → applied_line shape ts line ≡ Ok us → AllKeysFit shape ts → AllKeysFit shape us
  keys_fit_after line ts us is h = by_key_fault (key_fault shape.constants line) refl (line_fault shape ts line) refl is
    where
      by_key_fault : (k : Option ApplyFault) → key_fault shape.constants line ≡ k → (o : Option ApplyFault) → line_fault shape ts line ≡ o → unless o (after_line ts line) ≡ Ok us → AllKeysFit shape us
      by_key_fault None e None f is = let same : after_line ts line ≡ us = cc in subst (AllKeysFit shape) same (after line ts e h)
      by_key_fault (Some x) e None f is = cc (rw e at f)
      by_key_fault k e (Some y) f is = cc is
