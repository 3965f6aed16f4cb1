-- A reader of bytes in memory that gives one record after the other.
use Rattle.std.proofs.Common.{◌≡◌, ◌<◌, ◌+◌, ◌∷◌, ◌++◌, ◌∙◌, [], ℕ, List, Option, Some, None, refl, sym, ap, true, false, inl, length, unwrap_or, arith}
use Rattle.csv.specs.Machine.{Read, next_record}
use Rattle.csv.specs.Reading.{Reached, Ready, ReadRecord, ReadsNext, NextIs, default_config, source_of, pending_of, strip_bom}
use Rattle.csv.specs.declared.reader.Trim.TheVariants as trim
use Rattle.csv.specs.declared.parser.State.{State}
use Rattle.csv.specs.declared.parser.State.TheVariants as st
use Rattle.csv.proofs.ReadFacts.{rows-more, rows-end}
use Rattle.ss_text.specs.Texts.{Row}
use Rattle.csv_catalog.specs.Records.{records_of}
use Rattle.csv_catalog.specs.Reader.{BytesReader, bytes_of, left_of, IsAt}
use Rattle.csv_catalog.proofs.AllRecords.{all_records, counted_front, shorter, fewer}

-- before the first record
pub at_start : (bytes : List ℕ) (r : BytesReader) → r.trim ≡ trim.None → Ready r → r.config ≡ default_config → source_of bytes_of r ≡ Some (strip_bom bytes) → r.state ≡ st.StartRecord → IsAt bytes [] r
unfolding Reached
at_start bytes r plain ready config source state =
    let left = ap (λ (o : Option (List ℕ)). unwrap_or o []) source in
    record {
      plain = plain;
      ready = ready;
      config = config;
      source = rw left source;
      between = rw state refl;
      reached = (sym state, sym left);
    }

-- what a read shows of the bytes that were left
took : (o : Option Read) (row : Row) (s : State) (rest : List ℕ) → NextIs o true row s rest → o ≡ Some (row, s, rest)
took None row s rest h = cc h
took (Some p) row s rest h = ap Some (λ i. (sym h.1 i, sym h.2 i, sym h.3 i))

next_is : (s t : State) (xs : List ℕ) (after : Option (List ℕ)) (row : Row) → ReadsNext default_config s (Some xs) after true row t → (ys : List ℕ) × (after ≡ Some ys) × (next_record default_config s [] [] xs ≡ Some (row, t, ys))
next_is s t xs None row h = absurd h
next_is s t xs (Some ys) row h = (ys, refl, took (next_record default_config s [] [] xs) row t ys h)

-- one more record, which takes at least a byte
module _ (bytes : List ℕ) (rows : List Row) (a b : BytesReader) (row : Row) (h : IsAt bytes rows a) (read : ReadRecord bytes_of a b true row) where
  abbrev After : Type 0
  After = (ys : List ℕ) × (source_of bytes_of b ≡ Some ys) × (next_record default_config a.state [] [] (left_of a) ≡ Some (row, b.state, ys))

  after_it : After
  after_it =
      let n = next_is a.state b.state (left_of a) (pending_of (bytes_of b.rdr) b) row (rw (h.config, h.source) at read.0) in
      (n.0, rw read.1 n.1, n.2)

  left_is : left_of b ≡ after_it.0
  left_is = ap (λ (o : Option (List ℕ)). unwrap_or o []) after_it.1

  pub less_left : length (left_of b) < length (left_of a)
  less_left = rw left_is (fewer a.state (left_of a) (row, b.state, after_it.0) h.between after_it.2)

  pub at_next : b.first ≡ true → IsAt bytes (rows ++ row ∷ []) b
  at_next first =
      let more = rows-more bytes_of a b row default_config st.StartRecord (strip_bom bytes) (left_of a) rows h.config h.source h.reached read in
      let same = ap (λ (o : Option (List ℕ)). unwrap_or o []) more.1 in
      record {
        plain = read.3 ∙ h.plain;
        ready = inl first;
        config = read.2 ∙ h.config;
        source = rw same more.1;
        between = (shorter a.state [] [] (left_of a) (row, b.state, after_it.0) after_it.2).1;
        reached = rw same more.2;
      }

-- no further record
pub at_end : (bytes : List ℕ) (rows : List Row) (a b : BytesReader) (row : Row) → IsAt bytes rows a → ReadRecord bytes_of a b false row → rows ≡ records_of bytes
at_end bytes rows a b row h read = all_records bytes rows (a.state, left_of a, h.reached, rows-end bytes_of a b row default_config (left_of a) h.config h.source read)

-- what it gave stands at the front of all
pub given_front : (bytes : List ℕ) (rows : List Row) (r : BytesReader) → IsAt bytes rows r → (more : List Row) × (records_of bytes ≡ rows ++ more)
unfolding records_of
given_front bytes rows r h = counted_front (length (strip_bom bytes) + 1) st.StartRecord r.state (strip_bom bytes) (left_of r) rows h.reached refl (less (length (strip_bom bytes)))
  where
    less : (n : ℕ) → n < n + 1
    less n = omega arith
