-- What the first bytes of a file show of it.
use Rattle.std.proofs.Common.{◌≡◌, ◌<◌, ◌≤◌, ◌+◌, ◌∷◌, ◌++◌, ◌∙◌, [], ℕ, List, Some, None, refl, ap, inl, inr, length, drop, arith, append_assoc}
use Rattle.std.proofs.lemmas.Bool.{cases_Bool}
use Rattle.schema_model.proofs.ReadyLemmas.{same_some}
use Rattle.csv.specs.Machine.{Read, step, is_end, ends_at_end, next_record, fields_after, field_after}
use Rattle.csv.specs.Reading.{Reached, default_config, strip_bom, is_bom}
use Rattle.csv.specs.declared.parser.State.{State}
use Rattle.csv.specs.declared.parser.State.TheVariants as st
use Rattle.ss_text.specs.Texts.{Row}
use Rattle.csv_catalog.specs.declared.judge.FileFault.{FileFault}
use Rattle.csv_catalog.specs.Records.{records_of}
use Rattle.csv_catalog.specs.Reader.{BytesReader, IsAt, left_of}
use Rattle.csv_catalog.specs.FileFaults.{file_fault}
use Rattle.csv_catalog.specs.Judged.{fault_so_far, next_fault}
use Rattle.csv_catalog.proofs.AllRecords.{shorter, counted_front}
use Rattle.csv_catalog.proofs.JudgedLemmas.{next_refused}

-- a record with bytes behind it stays as it is where more follow them
record_more : (s : State) (f : List (List ℕ)) (p xs more : List ℕ) (r : Read) → next_record default_config s f p xs ≡ Some r → 0 < length r.2
    → next_record default_config s f p (xs ++ more) ≡ Some (r.0, r.1, r.2 ++ more)
unfolding next_record
record_more s f p [] more r e some = elim (cases_Bool (ends_at_end s)) [
  | inl ends ↦ absurd (none (ap (λ (q : Read). length q.2) (same_some _ _ (rw ends at e))) some)
  | inr on ↦ cc (rw on at e)
]
  where
    none : 0 ≡ length r.2 → 0 < length r.2 → ⊥
    none z h = omega arith
record_more s f p (c ∷ rest) more r e some = elim (cases_Bool (is_end (step default_config s c).1)) [
  | inl ends ↦ rw ends (ap (λ (q : Read). Some (q.0, q.1, q.2 ++ more)) (same_some _ _ (rw ends at e)))
  | inr on ↦ rw on (record_more (step default_config s c).0 (fields_after (step default_config s c).1 f p) (field_after (step default_config s c).1 c p) rest more r (rw on at e) some)
]

-- records leave no more bytes than there were
no_longer : (s s2 : State) (xs ys : List ℕ) (rows : List Row) → Reached default_config s xs rows s2 ys → length ys ≤ length xs
unfolding Reached
no_longer s s2 xs ys [] h = same (length ys) (length xs) (ap (λ (l : List ℕ). length l) h.1)
  where
    same : (n m : ℕ) → m ≡ n → n ≤ m
    same n m e = omega arith
no_longer s s2 xs ys (r ∷ rs) h =
    let (p, e, is, more) = h in
    through (length ys) (length p.2) xs (no_longer p.1 s2 p.2 ys rs more) (shorter s [] [] xs p e).0
  where
    through : (n m : ℕ) (l : List ℕ) → n ≤ m → m ≤ length (drop 1 l) → n ≤ length l
    through n m [] a b = omega arith
    through n m (x ∷ l) a b = omega arith

reached_more : (s s2 : State) (xs ys more : List ℕ) (rows : List Row) → Reached default_config s xs rows s2 ys → 0 < length ys → Reached default_config s (xs ++ more) rows s2 (ys ++ more)
unfolding Reached
reached_more s s2 xs ys more [] h some = (h.0, ap (λ (l : List ℕ). l ++ more) h.1)
reached_more s s2 xs ys more (r ∷ rs) h some =
    let (p, e, is, after) = h in
    ((p.0, p.1, p.2 ++ more), record_more s [] [] xs more p e (enough (length ys) (length p.2) some (no_longer p.1 s2 p.2 ys rs after)), is, reached_more p.1 s2 p.2 ys more rs after some)
  where
    enough : (n m : ℕ) → 0 < n → n ≤ m → 0 < m
    enough n m a b = omega arith

stripped : (xs more : List ℕ) → 3 ≤ length xs → strip_bom (xs ++ more) ≡ strip_bom xs ++ more
unfolding strip_bom
stripped [] more long = absurd (omega arith)
stripped (a ∷ []) more long = absurd (omega arith)
stripped (a ∷ b ∷ []) more long = absurd (omega arith)
stripped (a ∷ b ∷ c ∷ xs) more long = elim (cases_Bool (is_bom a b c)) [
  | inl mark ↦ rw mark refl
  | inr plain ↦ rw plain refl
]

-- a fault with bytes behind its record is the first of each file that begins so
pub front_refused : (front more : List ℕ) (count : ℕ) (rows : List Row) (row : Row) (r : BytesReader) (f : FileFault) → 3 ≤ length front → IsAt front (rows ++ row ∷ []) r → 0 < length (left_of r)
    → fault_so_far count rows ≡ None → next_fault count rows row ≡ Some f → file_fault count (records_of (front ++ more)) ≡ Some f
unfolding records_of
front_refused front more count rows row r f long h some none e =
    let xs = strip_bom front ++ more in
    let given = counted_front (length xs + 1) st.StartRecord r.state xs (left_of r ++ more) (rows ++ row ∷ []) (reached_more st.StartRecord r.state (strip_bom front) (left_of r) more (rows ++ row ∷ []) h.reached some) refl (less (length xs)) in
    rw (stripped front more long) (ap (file_fault count) (given.1 ∙ append_assoc rows (row ∷ []) given.0) ∙ next_refused count rows row given.0 f none e)
  where
    less : (n : ℕ) → n < n + 1
    less n = omega arith
