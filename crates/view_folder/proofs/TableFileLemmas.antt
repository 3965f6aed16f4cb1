-- The records of a table, one after another.
use Rattle.std.proofs.Common.{◌≡◌, ◌≢◌, ◌<◌, ◌+◌, ◌∙◌, ℕ, zero, suc, List, [], ◌∷◌, ◌++◌, map, take, length, get_or, Option, None, Some, refl, sym, ap, append_assoc, append-nil, arith, add-one}
use Rattle.ss_text.specs.Texts.{Row}
use Rattle.csv_catalog.specs.RecordText.{csv_text, record_text}
use Rattle.flow_law.specs.Records.{spliced}

pub csv_text_one : (row : Row) → record_text row ≡ csv_text (row ∷ [])
unfolding csv_text
csv_text_one row = sym (append-nil (record_text row))

pub csv_text_push : (rows : List Row) (row : Row) → csv_text (rows ++ row ∷ []) ≡ csv_text rows ++ record_text row
unfolding csv_text
csv_text_push [] row = append-nil (record_text row)
csv_text_push (r ∷ rs) row = ap (λ t. record_text r ++ t) (csv_text_push rs row) ∙ sym (append_assoc (record_text r) (csv_text rs) (record_text row))

-- a record with a constant part has a field
pub spliced_some : (spot : Option ℕ) (constant dynamic : Row) → constant ≢ [] → spliced spot constant dynamic ≢ []
spliced_some None constant dynamic ne e = ne e
spliced_some (Some zero) [] dynamic ne e = ne refl
spliced_some (Some (suc k)) [] dynamic ne e = ne refl
spliced_some (Some zero) (c ∷ cs) [] ne e = absurd (cc)
spliced_some (Some zero) (c ∷ cs) (d ∷ ds) ne e = absurd (cc)
spliced_some (Some (suc k)) (c ∷ cs) dynamic ne e = absurd (cc)

module _ {A B : Type 0} (f : A → B) where
  one_more_mapped : (xs : List A) (i : ℕ) (d : A) → i < length xs → map f (take (suc i) xs) ≡ map f (take i xs) ++ f (get_or xs i d) ∷ []
  one_more_mapped [] i d lt = absurd (omega arith)
  one_more_mapped (x ∷ xs) zero d lt = refl
  one_more_mapped (x ∷ xs) (suc i) d lt = ap (λ t. f x ∷ t) (one_more_mapped xs i d (omega arith))

  pub mapped_more : (xs : List A) (i : ℕ) (d : A) → i < length xs → map f (take (i + 1) xs) ≡ map f (take i xs) ++ f (get_or xs i d) ∷ []
  mapped_more xs i d lt = rw add-one (one_more_mapped xs i d lt)

-- one more row
records_more : (spot : Option ℕ) (header : Row) (rows : List (Row × Row)) (i : ℕ) → i < length rows
    → csv_text (header ∷ map (λ (r : Row × Row). spliced spot r.0 r.1) (take i rows)) ++ record_text (spliced spot (get_or rows i ([], [])).0 (get_or rows i ([], [])).1)
    ≡ csv_text (header ∷ map (λ (r : Row × Row). spliced spot r.0 r.1) (take (i + 1) rows))
records_more spot header rows i lt =
    sym (csv_text_push (header ∷ map (λ (r : Row × Row). spliced spot r.0 r.1) (take i rows)) (spliced spot (get_or rows i ([], [])).0 (get_or rows i ([], [])).1))
    ∙ ap (λ rs. csv_text (header ∷ rs)) (sym (mapped_more (λ (r : Row × Row). spliced spot r.0 r.1) rows i ([], []) lt))

pub records_step : (spot : Option ℕ) (header : Row) (rows : List (Row × Row)) (i : ℕ) (text new : List ℕ) (record_now key cells : Row) → i < length rows
    → text ≡ csv_text (header ∷ map (λ (r : Row × Row). spliced spot r.0 r.1) (take i rows))
    → key ≡ (get_or rows i ([], [])).0 → cells ≡ (get_or rows i ([], [])).1 → record_now ≡ spliced spot key cells → new ≡ text ++ record_text record_now
    → new ≡ csv_text (header ∷ map (λ (r : Row × Row). spliced spot r.0 r.1) (take (i + 1) rows))
records_step spot header rows i text new record_now key cells lt so_far k c r n =
    n ∙ ap (λ t. t ++ record_text record_now) so_far
    ∙ ap (λ (row : Row). csv_text (header ∷ map (λ (r : Row × Row). spliced spot r.0 r.1) (take i rows)) ++ record_text row) (r ∙ ap (λ (x : Row). spliced spot x cells) k ∙ ap (λ (x : Row). spliced spot (get_or rows i ([], [])).0 x) c)
    ∙ records_more spot header rows i lt
