-- The files of a database, one after the other.
use Rattle.std.proofs.Common.{◌≡◌, ◌≤◌, ◌+◌, ◌∷◌, ◌++◌, ◌∙◌, [], ℕ, List, Option, Some, None, refl, sym, ap, suc, length, map, arith}
use Rattle.std.specs.Prelude.{option_map}
use Rattle.std.specs.List.{cons_option}
use Rattle.std.specs.Option.{option_or}
use Rattle.std.proofs.lemmas.List.{map-append}
use Rattle.std.proofs.lemmas.List.Sums.{sum_by-append, sum_by-cons}
use Rattle.std.proofs.Math.Nat.{add-zero}
use Rattle.ss_text.specs.Texts.{Text}
use Rattle.ss_text.specs.Ascending.{with_element}
use Rattle.outside.specs.Tree.{Tree}
use Rattle.schema_model.specs.Catalogue.{RelationValue}
use Rattle.csv_catalog.specs.declared.fault.LoadFault.{LoadFault}
use Rattle.csv_catalog.specs.FileFaults.{file_fault, rows_of, told_fault}
use Rattle.csv_catalog.specs.Loaded.{File, file_in, files_read, relation_of, files_fault, by_name}
use Rattle.csv_catalog.specs.Reading.{all_placed, rows_counted}
use Rattle.csv_catalog.proofs.JudgedLemmas.{or_some}

pub placed_none : (kept rs : List RelationValue) → rs ≡ [] → (all_placed rs kept ≡ kept) × (rows_counted rs ≡ 0)
unfolding all_placed
placed_none kept rs e = rw e (refl, refl)

pub placed_one : (kept : List RelationValue) (r : RelationValue) (rs : List RelationValue) → rs ≡ r ∷ [] → (all_placed rs kept ≡ with_element by_name r kept) × (rows_counted rs ≡ length r.rows)
unfolding all_placed
placed_one kept r rs e = rw (e, sum_by-cons (λ (x : RelationValue). length x.rows) r [], add-zero (length r.rows)) (refl, refl)

or_none : {A : Type 0} (a b : Option A) → a ≡ None → option_or a b ≡ b
or_none a b e = rw e refl

pub or_nothing : {A : Type 0} (a : Option A) → option_or a None ≡ a
or_nothing None = refl
or_nothing (Some x) = refl

fault_one : (db : Text) (count : ℕ) (file : File) → files_fault db count (file ∷ []) ≡ option_map (told_fault db file.0) (file_fault count file.1)
unfolding files_fault
fault_one db count file = or_nothing _

-- past a file without a fault, and at one with a fault
fault_more : (db : Text) (count : ℕ) (o : Option File) (files : List File) → files_fault db count (cons_option o []) ≡ None → files_fault db count (cons_option o files) ≡ files_fault db (count + rows_counted (map relation_of (cons_option o []))) files
unfolding files_fault
fault_more db count None files e = rw (add-zero count) refl
fault_more db count (Some file) files e =
    or_none _ _ (sym (fault_one db count file) ∙ e)
    ∙ ap (λ (n : ℕ). files_fault db (count + n) files) (sym (sum_by-cons (λ (r : RelationValue). length r.rows) (relation_of file) [] ∙ add-zero (length (rows_of file.1))))

fault_here : (db : Text) (count : ℕ) (o : Option File) (files : List File) (e : LoadFault) → files_fault db count (cons_option o []) ≡ Some e → files_fault db count (cons_option o files) ≡ Some e
unfolding files_fault
fault_here db count None files e h = cc h
fault_here db count (Some file) files e h = or_some _ _ e (sym (fault_one db count file) ∙ h)

pub cons_is : {A : Type 0} (o : Option A) (xs : List A) → cons_option o xs ≡ cons_option o [] ++ xs
cons_is None xs = refl
cons_is (Some x) xs = refl

placed_append : (rs more kept : List RelationValue) → all_placed (rs ++ more) kept ≡ all_placed more (all_placed rs kept)
unfolding all_placed
placed_append [] more kept = refl
placed_append (r ∷ rs) more kept = placed_append rs more (with_element by_name r kept)

module _ (t : Tree) (db folder : Text) where
  abbrev Read : List Text → List RelationValue
  Read files = map relation_of (files_read t folder files)

  -- with these files left, what was read and counted leads to what all files give
  pub record IsReading (files : List Text) (count : ℕ) (left : List Text) (kept : List RelationValue) (counted : ℕ) : Type 0 where
    pub fault : files_fault db counted (files_read t folder left) ≡ files_fault db count (files_read t folder files)
    pub placed : all_placed (Read left) kept ≡ all_placed (Read files) []
    pub rows : counted + rows_counted (Read left) ≡ count + rows_counted (Read files)

module _ (t : Tree) (db folder : Text) (files : List Text) (count : ℕ) where
  pub reading_starts : IsReading t db folder files count files [] count
  reading_starts = record { fault = refl; placed = refl; rows = refl }

  pub reading_more : (file : Text) (left : List Text) (kept kept2 : List RelationValue) (counted counted2 : ℕ) → IsReading t db folder files count (file ∷ left) kept counted
      → files_fault db counted (files_read t folder (file ∷ [])) ≡ None → kept2 ≡ all_placed (Read t db folder (file ∷ [])) kept → counted2 ≡ counted + rows_counted (Read t db folder (file ∷ []))
      → IsReading t db folder files count left kept2 counted2
  reading_more file left kept kept2 counted counted2 h sound is rows =
      let o = file_in t folder file in
      let one = map relation_of (cons_option o []) in
      let rest = map relation_of (files_read t folder left) in
      let whole : map relation_of (files_read t folder (file ∷ left)) ≡ map relation_of (cons_option o []) ++ map relation_of (files_read t folder left) =
      ap (map relation_of) (cons_is o (files_read t folder left)) ∙ map-append relation_of (cons_option o []) (files_read t folder left) in
      record {
        fault = ap (λ (n : ℕ). files_fault db n (files_read t folder left)) rows ∙ sym (fault_more db counted o (files_read t folder left) sound) ∙ h.fault;
        placed = ap (all_placed rest) is ∙ sym (placed_append one rest kept) ∙ ap (λ (rs : List RelationValue). all_placed rs kept) (sym whole) ∙ h.placed;
        rows = ap (λ (n : ℕ). n + rows_counted rest) rows
            ∙ joined counted (rows_counted one) (rows_counted rest) _ (ap rows_counted whole ∙ sum_by-append (λ (r : RelationValue). length r.rows) one rest) ∙ h.rows;
      }
    where
      joined : (a b c d : ℕ) → d ≡ b + c → a + b + c ≡ a + d
      joined a b c d e = omega arith

  pub reading_refused : (file : Text) (left : List Text) (kept : List RelationValue) (counted : ℕ) (e : LoadFault) → IsReading t db folder files count (file ∷ left) kept counted
      → files_fault db counted (files_read t folder (file ∷ [])) ≡ Some e → files_fault db count (files_read t folder files) ≡ Some e
  reading_refused file left kept counted e h refused = sym h.fault ∙ fault_here db counted (file_in t folder file) (files_read t folder left) e refused

  pub reading_done : (left : List Text) (kept : List RelationValue) (counted : ℕ) → left ≡ [] → IsReading t db folder files count left kept counted → (files_fault db count (files_read t folder files) ≡ None) × (kept ≡ all_placed (Read t db folder files) [])
  unfolding files_fault all_placed
  reading_done left kept counted none h = let r = rw none at h in (sym r.fault, r.placed)

pub fits_start : (n : ℕ) → 0 + n ≤ n
fits_start n = omega arith

pub fits_more : (a b c n : ℕ) → b ≤ a + 1 → a + suc c ≤ n → b + c ≤ n
fits_more a b c n h k = omega arith
