-- The text of a record, as a writer puts it together field by field.
use Rattle.std.proofs.Common.{◌≡◌, ◌≢◌, ◌==◌, ◌||◌, ◌&&◌, ◌<◌, ◌≤◌, ◌+◌, ◌++◌, ◌∙◌, ◌∷◌, [], ℕ, List, Bor, map, Bool, Some, sym, ap, not, length, take, drop, get_or, append_assoc}
use Rattle.std.proofs.lemmas.List.{append-nil, get_or_default, take_all, drop_all}
use Rattle.csv.specs.Writing.{default_writer, field_text, next_sep, is_blank, row_body, tail_text}
use Rattle.csv.proofs.WriteFacts.{row-step, row-final}
use Rattle.ss_text.specs.Texts.{Text, Row}
use Rattle.csv_catalog.specs.RecordText.{record_text, csv_text}
use Rattle.csv_catalog.proofs.Canonical.{canonical}
use Rattle.csv_catalog.proofs.ListLemmas.{next_left}

-- an item that is there, at any default
pub item_at : (row : Row) (i : ℕ) (item d : Text) → i < length row → item ≡ get_or row i item → item ≡ get_or row i d
item_at row i item d lt is = is ∙ get_or_default row i item d lt

-- one more field
pub field_more : (base now new : List ℕ) (row : Row) (i : ℕ) (item : Text) → i < length row → item ≡ get_or row i item → now ≡ base ++ row_body default_writer (take i row)
    → new ≡ now ++ (next_sep default_writer i ++ field_text default_writer item) → new ≡ base ++ row_body default_writer (take (i + 1) row)
field_more base now new row i item lt is before after =
    let piece = ap (λ (t : Text). next_sep default_writer i ++ field_text default_writer t) (item_at row i item [] lt is) in
    after ∙ ap (λ (t : List ℕ). now ++ t) piece ∙ ap (λ (t : List ℕ). t ++ (next_sep default_writer i ++ field_text default_writer (get_or row i []))) before
    ∙ append_assoc base (row_body default_writer (take i row)) _ ∙ ap (λ (t : List ℕ). base ++ t) (sym (row-step default_writer row i lt))

-- all fields, and the end
pub record_whole : (base now new : List ℕ) (row : Row) (i : ℕ) (wrote : Bool) → row ≢ [] → length row ≤ i → now ≡ base ++ row_body default_writer (take i row)
    → is_blank default_writer (take i row) ≡ (not wrote && ((i == 0) || (i == 1))) → new ≡ now ++ tail_text default_writer wrote i → new ≡ base ++ record_text row
record_whole base now new row i wrote some all before blank after =
    let whole = take_all i row all in
    row-final (Some base) (Some now) (Some new) default_writer row wrote i (rw whole at before) (rw whole at blank) after
    ∙ ap (λ (t : List ℕ). base ++ t) (sym (canonical row some))

-- the rows behind references from a place on
pub next_borrowed : (rows : List (Bor Row)) (i : ℕ) (item : Bor Row) → i < length rows → item ≡ get_or rows i item → map (λ (r : Bor Row). r.now) (drop i rows) ≡ item.now ∷ map (λ (r : Bor Row). r.now) (drop (i + 1) rows)
next_borrowed rows i item lt is = ap (map (λ (r : Bor Row). r.now)) (next_left rows i item lt is)

pub none_borrowed : (rows : List (Bor Row)) (i : ℕ) → length rows ≤ i → map (λ (r : Bor Row). r.now) (drop i rows) ≡ []
none_borrowed rows i past = ap (map (λ (r : Bor Row). r.now)) (drop_all i rows past)

-- one more row
pub row_more : (base now new : List ℕ) (row : Row) (rest all : List Row) → now ++ csv_text (row ∷ rest) ≡ base ++ csv_text all → new ≡ now ++ record_text row → new ++ csv_text rest ≡ base ++ csv_text all
unfolding csv_text
row_more base now new row rest all before after = ap (λ (t : List ℕ). t ++ csv_text rest) after ∙ append_assoc now (record_text row) (csv_text rest) ∙ before

-- no row is left
pub no_row : (base now : List ℕ) (rows : List Row) → now ++ csv_text [] ≡ base ++ csv_text rows → now ≡ base ++ csv_text rows
unfolding csv_text
no_row base now rows h = sym (append-nil now) ∙ h
