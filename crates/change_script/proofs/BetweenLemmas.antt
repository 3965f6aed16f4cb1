-- What loops over rows, labels and columns have written after one more.
use Rattle.std.proofs.Common.{◌≡◌, ◌<◌, ◌+◌, ◌++◌, ◌∷◌, [], ℕ, Bool, true, false, cond, List, Option, Some, None, refl, sym, ◌∙◌, ap, map, take, length, get_or, append_assoc}
use Rattle.std.specs.Prelude.{not, filter_map, flat_map}
use Rattle.std.specs.List.{cons_option, list_any}
use Rattle.std.proofs.lemmas.List.{map_more, take-map, take_more, flat_map_more, map-append, append-nil}
use Rattle.std.proofs.lemmas.List.Elements.{filter_map-append, filter-append}
use Rattle.ss_text.specs.Texts.{Text, Row, row_eq, text_eq}
use Rattle.flow_law.specs.Tables.{TableValue, TablesValue, key_of, label_in, row_keys, row_at, labels_of, tables_at, empty_table, cell_of}
use Rattle.flow_law.specs.Lines.{has_row}
use Rattle.flow_law.specs.Script.{cell_line, keys_beyond}
use Rattle.flow_law.specs.declared.line.TableLine.{TableLine}
use Rattle.flow_law.specs.declared.line.TableLine.TheVariants.{Cell}
use Rattle.flow_law.proofs.StepLemmas.{key_is_there}

taken_more : {A B : Type 0} (f : A → B) (xs : List A) (i : ℕ) (d : A) → i < length xs → take (i + 1) (map f xs) ≡ take i (map f xs) ++ f (get_or xs i d) ∷ []
taken_more f xs i d lt = take-map f (i + 1) xs ∙ map_more f xs i d lt ∙ ap (λ ys. ys ++ f (get_or xs i d) ∷ []) (sym (take-map f i xs))

-- one more key, and one more label
pub key_more : (t : TableValue) (i : ℕ) → i < length t.rows → take (i + 1) (row_keys t) ≡ take i (row_keys t) ++ (row_at i t).0 ∷ []
key_more t i lt = taken_more key_of t.rows i ([], []) lt

pub label_more : (ts : TablesValue) (i : ℕ) → i < length ts → take (i + 1) (labels_of ts) ≡ take i (labels_of ts) ++ (tables_at i ts).0 ∷ []
label_more ts i lt = taken_more label_in ts i ([], empty_table) lt

-- the lines of one more key
pub rows_more : (f : Row → List TableLine) (t : TableValue) (before : List TableLine) (i : ℕ) → i < length t.rows → (before ++ flat_map f (take i (row_keys t))) ++ f (row_at i t).0 ≡ before ++ flat_map f (take (i + 1) (row_keys t))
rows_more f t before i lt = flat_map_more f before (take i (row_keys t)) (row_at i t).0 ∙ ap (λ ks. before ++ flat_map f ks) (sym (key_more t i lt))

-- a key beyond others, and one among them
module _ (f : Row → TableLine) (others t : TableValue) (before now : List TableLine) (i : ℕ) (lt : i < length t.rows) (so_far : now ≡ before ++ map f (keys_beyond (row_keys others) (take i (row_keys t)))) where
  after_one : (b : Bool) → has_row (row_at i t).0 others ≡ b → keys_beyond (row_keys others) (take (i + 1) (row_keys t)) ≡ keys_beyond (row_keys others) (take i (row_keys t)) ++ cond (not b) ((row_at i t).0 ∷ []) []
  after_one b h =
      ap (keys_beyond (row_keys others)) (key_more t i lt) ∙ filter-append (λ key. not (list_any (row_eq key) (row_keys others))) (take i (row_keys t)) ((row_at i t).0 ∷ [])
      ∙ ap (λ c. keys_beyond (row_keys others) (take i (row_keys t)) ++ cond (not c) ((row_at i t).0 ∷ []) []) (sym (key_is_there (row_at i t).0 others) ∙ h)

  pub key_beyond : has_row (row_at i t).0 others ≡ false → now ++ f (row_at i t).0 ∷ [] ≡ before ++ map f (keys_beyond (row_keys others) (take (i + 1) (row_keys t)))
  key_beyond h = rw (after_one false h, so_far, map-append, append_assoc) refl

  pub key_among : has_row (row_at i t).0 others ≡ true → now ≡ before ++ map f (keys_beyond (row_keys others) (take (i + 1) (row_keys t)))
  key_among h = rw (after_one true h, so_far, map-append, append-nil) refl

-- a value that is given for one more element, and none
module _ {A B : Type 0} (h : A → Option B) (before now : List B) (xs : List A) (i : ℕ) (d : A) (lt : i < length xs) (so_far : now ≡ before ++ filter_map h (take i xs)) where
  given_after : (o : Option B) → o ≡ h (get_or xs i d) → filter_map h (take (i + 1) xs) ≡ filter_map h (take i xs) ++ cons_option o []
  given_after o e = ap (filter_map h) (take_more xs i d lt) ∙ filter_map-append h (take i xs) (get_or xs i d ∷ []) ∙ ap (λ p. filter_map h (take i xs) ++ cons_option p []) (sym e)

  pub one_given : (y : B) → Some y ≡ h (get_or xs i d) → now ++ y ∷ [] ≡ before ++ filter_map h (take (i + 1) xs)
  one_given y e = ap (λ ys. ys ++ y ∷ []) so_far ∙ append_assoc before (filter_map h (take i xs)) (y ∷ []) ∙ ap (λ ys. before ++ ys) (sym (given_after (Some y) e))

  pub none_given : None ≡ h (get_or xs i d) → now ≡ before ++ filter_map h (take (i + 1) xs)
  none_given e = so_far ∙ ap (λ ys. before ++ ys) (sym (given_after None e ∙ append-nil (filter_map h (take i xs))))

-- the line of a cell, by its values before and now
pub cell_line_by : (label : Text) (old new : TableValue) (key : Row) (column before now : Text) (same : Bool) → before ≡ cell_of old key column → now ≡ cell_of new key column → same ≡ text_eq before now
    → cond same None (Some (Cell label column now key)) ≡ cell_line label old new key column
cell_line_by label old new key column before now same e f g = rw (g, e, f) refl
