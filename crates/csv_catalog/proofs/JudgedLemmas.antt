-- The faults of a file, met one record after the other.
use Rattle.std.proofs.Common.{◌≡◌, ◌<◌, ◌≤◌, ◌+◌, ◌==◌, ◌∷◌, ◌++◌, ◌∙◌, [], ℕ, List, Bool, Option, Some, None, true, false, refl, sym, ap, suc, length, not, arith, append_assoc}
use Rattle.std.specs.Prelude.{cond, nat_le}
use Rattle.std.specs.Option.{option_or}
use Rattle.std.proofs.Math.Nat.{add-zero}
use Rattle.ss_text.specs.Texts.{Row}
use Rattle.csv_catalog.specs.declared.judge.FileFault.{FileFault}
use Rattle.csv_catalog.specs.Records.{records_of}
use Rattle.csv_catalog.specs.Reader.{BytesReader, IsAt}
use Rattle.csv_catalog.specs.FileFaults.{header_fault, row_fault, rows_fault, file_fault}
use Rattle.csv_catalog.specs.Judged.{fault_so_far, next_fault}
use Rattle.csv_catalog.proofs.ReaderLemmas.{given_front}
use Rattle.csv_catalog.proofs.FaultLemmas.{rows_fit}
use Rattle.schema_model.specs.Limits.{most_rows}

moved : (n m : ℕ) → n + 1 + m ≡ n + suc m
moved n m = omega arith

pub or_some : {A : Type 0} (a b : Option A) (x : A) → a ≡ Some x → option_or a b ≡ Some x
or_some a b x e = rw e refl

pub both_none : {A : Type 0} (a b : Option A) → option_or a b ≡ None → (a ≡ None) × (b ≡ None)
both_none None b e = (refl, e)
both_none (Some f) b e = cc e

or_tests : {A : Type 0} (a b : Bool) (x y : A) (z : Option A) → cond a (Some x) (cond b (Some y) z) ≡ option_or (cond a (Some x) (cond b (Some y) None)) z
or_tests true b x y z = refl
or_tests false true x y z = refl
or_tests false false x y z = refl

-- a row, and those after it
row_first : (want nth count : ℕ) (row : Row) (rows : List Row) → rows_fault want nth count (row ∷ rows) ≡ option_or (row_fault want nth count row) (rows_fault want (nth + 1) (count + 1) rows)
unfolding rows_fault
row_first want nth count row rows = or_tests (not (length row == want)) (nat_le most_rows count) _ _ _

-- what is wrong behind rows without a fault
rows_behind : (want nth count : ℕ) (rows more : List Row) → rows_fault want nth count rows ≡ None → rows_fault want nth count (rows ++ more) ≡ rows_fault want (nth + length rows) (count + length rows) more
rows_behind want nth count [] more e = ap (λ (n : ℕ). rows_fault want n count more) (sym (add-zero nth)) ∙ ap (λ (n : ℕ). rows_fault want (nth + 0) n more) (sym (add-zero count))
rows_behind want nth count (row ∷ rows) more e =
    let none = both_none _ _ (sym (row_first want nth count row rows) ∙ e) in
    row_first want nth count row (rows ++ more) ∙ ap (λ o. option_or o (rows_fault want (nth + 1) (count + 1) (rows ++ more))) none.0 ∙ rows_behind want (nth + 1) (count + 1) rows more none.1
    ∙ ap (λ (n : ℕ). rows_fault want n (count + 1 + length rows) more) (moved nth (length rows)) ∙ ap (λ (n : ℕ). rows_fault want (nth + suc (length rows)) n more) (moved count (length rows))

file_behind : (count : ℕ) (header : Row) (rows more : List Row) → file_fault count (header ∷ rows) ≡ None → file_fault count (header ∷ (rows ++ more)) ≡ rows_fault (length header) (2 + length rows) (count + length rows) more
unfolding file_fault
file_behind count header rows more e =
    let none = both_none (header_fault header) (rows_fault (length header) 2 count rows) e in
    ap (λ o. option_or o (rows_fault (length header) 2 count (rows ++ more))) none.0 ∙ rows_behind (length header) 2 count rows more none.1

pub next_refused : (count : ℕ) (rows : List Row) (row : Row) (more : List Row) (f : FileFault) → fault_so_far count rows ≡ None → next_fault count rows row ≡ Some f → file_fault count (rows ++ row ∷ more) ≡ Some f
unfolding file_fault
next_refused count [] row more f none e = or_some (header_fault row) _ f e
next_refused count (header ∷ rows) row more f none e =
    file_behind count header rows (row ∷ more) none ∙ row_first (length header) (2 + length rows) (count + length rows) row more ∙ or_some _ _ f e

-- the next record is the first with a fault, or has none
pub judged_refused : (bytes : List ℕ) (count : ℕ) (rows : List Row) (row : Row) (r : BytesReader) (f : FileFault) → IsAt bytes (rows ++ row ∷ []) r → fault_so_far count rows ≡ None → next_fault count rows row ≡ Some f → file_fault count (records_of bytes) ≡ Some f
judged_refused bytes count rows row r f h none e =
    let front = given_front bytes (rows ++ row ∷ []) r h in
    ap (file_fault count) (front.1 ∙ append_assoc rows (row ∷ []) front.0) ∙ next_refused count rows row front.0 f none e

pub judged_sound : (count : ℕ) (rows : List Row) (row : Row) → fault_so_far count rows ≡ None → next_fault count rows row ≡ None → fault_so_far count (rows ++ row ∷ []) ≡ None
unfolding file_fault rows_fault
judged_sound count [] row none e = ap (λ o. option_or o (rows_fault (length row) 2 count [])) e
judged_sound count (header ∷ rows) row none e =
    file_behind count header rows (row ∷ []) none ∙ row_first (length header) (2 + length rows) (count + length rows) row []
    ∙ ap (λ o. option_or o (rows_fault (length header) (2 + length rows + 1) (count + length rows + 1) [])) e

-- they are no more than may be
pub few_so_far : (count : ℕ) (rows : List Row) → count ≤ most_rows → fault_so_far count rows ≡ None → count + length rows ≤ 1000001
unfolding file_fault
few_so_far count [] few e = omega arith
few_so_far count (header ∷ rows) few e = one_more (length rows) (rows_fit (length header) 2 count rows few (both_none (header_fault header) (rows_fault (length header) 2 count rows) e).1).1
  where
    one_more : (n : ℕ) → count + n ≤ most_rows → count + suc n ≤ 1000001
    one_more n h = omega arith

pub fault_of_all : (count : ℕ) (rows : List Row) → 0 < length rows → fault_so_far count rows ≡ None → file_fault count rows ≡ None
fault_of_all count [] some e = absurd (omega arith)
fault_of_all count (header ∷ rows) some e = e
