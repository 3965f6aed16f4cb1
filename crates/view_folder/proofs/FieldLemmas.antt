-- Records that are written field by field.
use Rattle.std.proofs.Common.{◌≡◌, ◌≢◌, ◌==◌, ◌||◌, ◌&&◌, ◌<◌, ◌≤◌, ◌+◌, ◌-◌, ◌^◌, ◌++◌, ◌∙◌, ◌∷◌, [], ℕ, zero, suc, ltb, cond, List, Bool, true, false, not, inl, inr, Option, Some, None, refl, sym, ap, subst, length, take, drop, get_or, append_assoc, append-nil, length-append, length-drop, arith}
use Rattle.std.specs.Prelude.{min, if◌then◌else◌}
use Rattle.std.specs.Global.{Vec}
use Rattle.std.proofs.lemmas.Bool.{cases_Bool, eq-eqb, eqb-true, ne_eqb, false≢true, ltb-true, ltb-false}
use Rattle.std.proofs.lemmas.List.{take_more, take_all, drop_all}
use Rattle.csv.specs.declared.writer.Writer.{Writer}
use Rattle.csv.specs.Writing.{default_writer, field_text, next_sep, is_blank, row_body, tail_text}
use Rattle.csv.proofs.WriteFacts.{row-more, row-final, blank-more}
use Rattle.ss_text.specs.Texts.{Text, Row, text_eq}
use Rattle.flow_law.specs.declared.shape.Shape.{Shape}
use Rattle.flow_law.specs.Tables.{TableValue, TablesValue, table_of}
use Rattle.csv_catalog.specs.RecordText.{record_text, csv_text}
use Rattle.csv_catalog.proofs.Canonical.{canonical}
use Rattle.csv_catalog.proofs.ListLemmas.{next_left}
use Rattle.view_folder.specs.TableFiles.{table_text}
use Rattle.flow_law.specs.Records.{spliced, row_records}
use Rattle.view_folder.specs.Fields.{IsWithin}

-- numbers that are the same as a third in the same cases
test_same : (k n l : ℕ) → (n ≡ k → l ≡ k) → (l ≡ k → n ≡ k) → (n == k) ≡ (l == k)
test_same k n l f g = elim (cases_Bool (n == k)) [
  | inl same ↦ same ∙ sym (eq-eqb l k (f (eqb-true n k same)))
  | inr other ↦ other ∙ sym (ne_eqb l k (λ e. false≢true (sym other ∙ eq-eqb n k (g e))))
]

-- a count that stops at a bound
module _ (bound : ℕ) (large : 1 < bound) (l n : ℕ) (is : n ≡ min l bound) where
  no_field : (n == 0) ≡ (l == 0)
  no_field = test_same 0 n l (λ e. omega (arith, is, large, e)) (λ e. omega (arith, is, large, e))

  one_field : (n == 1) ≡ (l == 1)
  one_field = test_same 1 n l (λ e. omega (arith, is, large, e)) (λ e. omega (arith, is, large, e))

  counted : (next : ℕ) → next ≡ min (n + 1) bound → next ≡ min (l + 1) bound
  counted next e = omega (arith, is, e)

bound : ℕ
bound = 2 ^ 64 - 1

large : 1 < bound
unfolding bound
large = omega arith

-- one more field
pub count_more : (fields : Row) (field : Text) (n next : ℕ) → n ≡ min (length fields) (2 ^ 64 - 1) → next ≡ min (n + 1) (2 ^ 64 - 1) → next ≡ min (length (fields ++ field ∷ [])) (2 ^ 64 - 1)
unfolding bound
count_more fields field n next is e = counted bound large (length fields) n is next e ∙ ap (λ k. min k bound) (sym (length-append fields (field ∷ [])))

pub text_more : (ended text new : List ℕ) (fields : Row) (field : Text) (n : ℕ) → n ≡ min (length fields) (2 ^ 64 - 1) → text ≡ ended ++ row_body default_writer fields
    → new ≡ text ++ (next_sep default_writer n ++ field_text default_writer field) → new ≡ ended ++ row_body default_writer (fields ++ field ∷ [])
unfolding bound
text_more ended text new fields field n is so_far e =
    e ∙ ap (λ (t : List ℕ). t ++ (next_sep default_writer n ++ field_text default_writer field)) so_far
    ∙ append_assoc ended (row_body default_writer fields) (next_sep default_writer n ++ field_text default_writer field)
    ∙ ap (λ (t : List ℕ). ended ++ t)
    (ap (λ (b : Bool). row_body default_writer fields ++ ((if b then [] else default_writer.delimiter ∷ []) ++ field_text default_writer field)) (no_field bound large (length fields) n is)
    ∙ sym (row-more default_writer fields field))

pub blank_more : (fields : Row) (field : Text) (wrote new : Bool) → is_blank default_writer fields ≡ (not wrote && ((length fields == 0) || (length fields == 1)))
    → (wrote ≡ false → new ≡ not (length (field_text default_writer field) == 0)) → (wrote ≡ true → new ≡ true)
    → is_blank default_writer (fields ++ field ∷ []) ≡ (not new && ((length (fields ++ field ∷ []) == 0) || (length (fields ++ field ∷ []) == 1)))
blank_more fields field wrote new blank first stays = rw (length-append fields (field ∷ [])) (blank-more default_writer fields field wrote new blank first stays)

-- the end of a record
pub record_ended : (ended text new : List ℕ) (fields : Row) (wrote : Bool) (n : ℕ) → fields ≢ [] → n ≡ min (length fields) (2 ^ 64 - 1) → text ≡ ended ++ row_body default_writer fields
    → is_blank default_writer fields ≡ (not wrote && ((length fields == 0) || (length fields == 1))) → new ≡ text ++ tail_text default_writer wrote n → new ≡ ended ++ record_text fields
unfolding bound
record_ended ended text new fields wrote n some is so_far blank e =
    let same : is_blank default_writer fields ≡ (not wrote && ((n == 0) || (n == 1))) = rw (no_field bound large (length fields) n is, one_field bound large (length fields) n is) blank in
    row-final (Some ended) (Some text) (Some new) default_writer fields wrote n so_far same e
    ∙ ap (λ (t : List ℕ). ended ++ t) (sym (canonical fields some))

-- a field for each text
module _ (ended : List ℕ) (fields : Row) where
  pub none_put : (w : Writer (Vec ℕ)) → IsWithin ended fields w → IsWithin ended (fields ++ []) w
  none_put w h = subst (λ (fs : Row). IsWithin ended fs w) (sym (append-nil fields)) h

  pub one_put : (w : Writer (Vec ℕ)) (texts : Row) (i : ℕ) (field : Text) → i < length texts → field ≡ get_or texts i field → IsWithin ended ((fields ++ take i texts) ++ field ∷ []) w
      → IsWithin ended (fields ++ take (i + 1) texts) w
  one_put w texts i field lt is h =
      subst (λ (fs : Row). IsWithin ended fs w)
      (append_assoc fields (take i texts) (field ∷ []) ∙ ap (λ (ts : Row). fields ++ ts) (ap (λ (t : Text). take i texts ++ t ∷ []) is ∙ sym (take_more texts i field lt))) h

  pub all_put : (w : Writer (Vec ℕ)) (texts : Row) (i : ℕ) → length texts ≤ i → IsWithin ended (fields ++ take i texts) w → IsWithin ended (fields ++ texts) w
  all_put w texts i all h = subst (λ (fs : Row). IsWithin ended fs w) (ap (λ (ts : Row). fields ++ ts) (take_all i texts all)) h

-- a record: its constant part up to a place, its dynamic part, and the rest
pub spliced_split : (spot split : ℕ) (constant dynamic : Row) → split ≡ min spot (length constant) → (take split constant ++ dynamic) ++ drop split constant ≡ spliced (Some spot) constant dynamic
spliced_split spot split constant dynamic is = by_size (ltb spot (length constant)) refl
  where
    by_size : (b : Bool) → ltb spot (length constant) ≡ b → (take split constant ++ dynamic) ++ drop split constant ≡ spliced (Some spot) constant dynamic
    by_size true lt =
        let same : split ≡ spot = omega (arith, is, ltb-true spot (length constant) lt) in
        ap (λ (n : ℕ). (take n constant ++ dynamic) ++ drop n constant) same
    by_size false ge =
        let all : length constant ≤ split = omega (arith, is, ltb-false spot (length constant) ge) in
        let past : length constant ≤ spot = omega (arith, is, ltb-false spot (length constant) ge) in
        rw (take_all split constant all, take_all spot constant past, drop_all split constant all, drop_all spot constant past) refl

pub spliced_parts : (spot split : ℕ) (constant dynamic : Row) → split ≡ min spot (length constant) → (take split constant ++ dynamic) ++ take (length constant - split) (drop split constant) ≡ spliced (Some spot) constant dynamic
spliced_parts spot split constant dynamic is =
    ap (λ (rest : Row). (take split constant ++ dynamic) ++ rest) (take_all (length constant - split) (drop split constant) (omega (arith, length-drop split constant)))
    ∙ spliced_split spot split constant dynamic is

-- the records of rows, the first of which is written
module _ (spot : Option ℕ) (so_far all : List ℕ) where
  pub row_put : (left rows : List (Row × Row)) (row : Row × Row) → left ≡ row ∷ rows → so_far ++ csv_text (row_records spot left) ≡ all
      → (so_far ++ record_text (spliced spot row.0 row.1)) ++ csv_text (row_records spot rows) ≡ all
  unfolding csv_text
  row_put left rows row is h =
      append_assoc so_far (record_text (spliced spot row.0 row.1)) (csv_text (row_records spot rows))
      ∙ ap (λ (rs : List (Row × Row)). so_far ++ csv_text (row_records spot rs)) (sym is) ∙ h

  pub rows_put : (left : List (Row × Row)) → left ≡ [] → so_far ++ csv_text (row_records spot left) ≡ all → so_far ≡ all
  unfolding csv_text
  rows_put left is h = sym (append-nil so_far) ∙ ap (λ (rs : List (Row × Row)). so_far ++ csv_text (row_records spot rs)) (sym is) ∙ h

-- the header and the rows
pub table_put : (shape : Shape) (t : TableValue) (columns : Row) (rows : List (Row × Row)) → columns ≡ t.columns → rows ≡ t.rows
    → record_text (spliced shape.spot shape.constants columns) ++ csv_text (row_records shape.spot rows) ≡ table_text shape t
unfolding table_text csv_text
table_put shape t columns rows c r =
    ap (λ (cs : Row). record_text (spliced shape.spot shape.constants cs) ++ csv_text (row_records shape.spot rows)) c
    ∙ ap (λ (rs : List (Row × Row)). record_text (spliced shape.spot shape.constants t.columns) ++ csv_text (row_records shape.spot rs)) r

-- the table of a label, among tables from a place on
module _ (ts : TablesValue) (label : Text) (i : ℕ) (p : Text × TableValue) (lt : i < length ts) (is : p ≡ get_or ts i p) (left : table_of (drop i ts) label ≡ table_of ts label) where
  next_table : cond (text_eq label p.0) (Some p.1) (table_of (drop (i + 1) ts) label) ≡ table_of ts label
  next_table = sym (ap (λ (rest : TablesValue). table_of rest label) (next_left ts i p lt is)) ∙ left

  pub found_table : text_eq label p.0 ≡ true → Some p.1 ≡ table_of ts label
  found_table e = rw e at next_table

  pub passed_table : text_eq label p.0 ≡ false → table_of (drop (i + 1) ts) label ≡ table_of ts label
  passed_table e = rw e at next_table

pub no_table : (ts : TablesValue) (label : Text) (i : ℕ) → length ts ≤ i → table_of (drop i ts) label ≡ table_of ts label → None ≡ table_of ts label
no_table ts label i past left = sym (ap (λ (rest : TablesValue). table_of rest label) (drop_all i ts past)) ∙ left

-- no text of a row lies between a place and itself
none_between : (n : ℕ) (row : Row) → drop n (take n row) ≡ []
none_between zero row = refl
none_between (suc n) [] = refl
none_between (suc n) (t ∷ ts) = none_between n ts

first_texts : (n : ℕ) (row : Row) → n < length row → take (suc n) row ≡ take n row ++ get_or row n [] ∷ []
first_texts n [] within = absurd (omega (arith, within))
first_texts zero (t ∷ ts) within = refl
first_texts (suc n) (t ∷ ts) within = ap (λ (r : Row). t ∷ r) (first_texts n ts (omega (arith, within)))

-- the texts from one place up to another, and one more
one_more_between : (from n : ℕ) (row : Row) → from ≤ n → n < length row → drop from (take (suc n) row) ≡ drop from (take n row) ++ get_or row n [] ∷ []
one_more_between zero n row ordered within = first_texts n row within
one_more_between (suc from) zero row ordered within = absurd (omega (arith, ordered))
one_more_between (suc from) (suc n) [] ordered within = absurd (omega (arith, within))
one_more_between (suc from) (suc n) (t ∷ ts) ordered within = one_more_between from n ts (omega (arith, ordered)) (omega (arith, within))

pub none_of_key : (ended : List ℕ) (fields row : Row) (n : ℕ) (w : Writer (Vec ℕ)) → IsWithin ended fields w → IsWithin ended (fields ++ drop n (take n row)) w
none_of_key ended fields row n w h = rw (none_between n row) (none_put ended fields w h)

pub more_of_key : (ended : List ℕ) (fields row : Row) (from n : ℕ) (w : Writer (Vec ℕ)) → from ≤ n → n < length row
    → IsWithin ended ((fields ++ drop from (take n row)) ++ get_or row n [] ∷ []) w → IsWithin ended (fields ++ drop from (take (n + 1) row)) w
more_of_key ended fields row from n w ordered within h =
    let next : suc n ≡ n + 1 = omega arith in
    subst (λ fs. IsWithin ended fs w)
    (append_assoc fields (drop from (take n row)) _ ∙ ap (λ (r : Row). fields ++ r) (sym (one_more_between from n row ordered within)) ∙ ap (λ k. fields ++ drop from (take k row)) next) h
