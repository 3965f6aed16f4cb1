-- What a crash leaves in each of the two steps in which a group is added.
use Rattle.std.proofs.Common.{◌≡◌, inl, inr, ℕ, ◌+◌, ◌<◌, ◌≤◌, ◌==◌, false, List, [], ◌∷◌, ◌++◌, length, take, drop, get_or, Option, None, Some, Result, Ok, Err, refl, sym, ap, ◌∙◌, subst, arith, eqb-true, append_assoc, length-append, length-take-le, take-append-drop}
use Rattle.std.specs.Prelude.{option_map}
use Rattle.std.proofs.lemmas.Bool.{cases_Bool}
use Rattle.std.proofs.lemmas.List.{drop_at, take_at}
use Rattle.disk.specs.Disk.{Content, IsImage, MayLeave, stable, overwritten, with_written, with_synced}
use Rattle.change_journal.specs.Spelled.{Group}
use Rattle.change_journal.specs.Entries.{Reading, read_journal, only_groups, entries, size_of}
use Rattle.change_journal.specs.Journals.{AllHave, IsBeforeOrAfter, MayHaveWritten, IsEntryOf}
use Rattle.change_journal.proofs.Readings.{byte_at_end, same_front, entry_added, read_is}
use Rattle.disk.proofs.FillLemmas.{no_nearer}
use Rattle.change_journal.proofs.Images.{whole_write, earlier, stable_image, one_byte_image}

-- a disk as it reads is one of its images
pub self_image : (held : Content) → held.stable ≤ length held.bytes → IsImage held held.bytes
self_image held whole = record { no_shorter = whole; no_longer = no_nearer (length held.bytes) held.written; same = λ i lt clear. refl }

-- a disk whose images all have entries tells its bytes
pub told_of : (groups : List Group) (content : Option Content) → AllHave groups content → (held : Content) × (content ≡ Some held)
told_of groups None all = let none : entries [] ≡ Ok groups = all [] tt in absurd (cc)
told_of groups (Some held) all = (held, refl)

abbrev end_in : Result Reading ℕ → ℕ
end_in (Ok read) = read.end
end_in (Err at) = at

abbrev pub reading : List Group → ℕ → Reading
reading groups end = record { groups = groups; end = end }

-- and its journal ends in each of them at the place at which it ends in those bytes
pub all_read : (groups others : List Group) (end : ℕ) (held : Content) → AllHave groups (Some held) → held.stable ≤ length held.bytes → read_journal held.bytes ≡ Ok (reading others end)
    → (image : List ℕ) → IsImage held image → read_journal image ≡ Ok (reading groups end)
all_read groups others end held all whole opened image is =
    let own = read_is held.bytes groups (all held.bytes (self_image held whole)) in
    let place : size_of groups ≡ end = ap end_in (sym own ∙ opened) in
    read_is image groups (all image is) ∙ ap (λ (n : ℕ). Ok (reading groups n)) place

module _ (groups : List Group) (end : ℕ) (held : Content) (whole : held.stable ≤ length held.bytes) (all : (image : List ℕ) → IsImage held image → read_journal image ≡ Ok (reading groups end)) where
  own : read_journal held.bytes ≡ Ok (reading groups end)
  own = all held.bytes (self_image held whole)

  within : end + 1 ≤ length held.bytes
  within = let at = (byte_at_end held.bytes (reading groups end) own).0 in omega (arith, at)

  -- the byte at the end stands in each outcome of the first write
  pub staged : (n : ℕ) (image : List ℕ) → MayHaveWritten (end + 1) n (Some held) image → read_journal image ≡ Ok (reading groups end)
  staged n image (inl is) = all image is
  staged n image (inr (left, broke, is)) =
      let old = earlier (end + 1) n held left whole within broke image is in
      same_front old.0 image (reading groups end) (all old.0 old.1) old.2

-- with an entry behind the end of these bytes
module _ (bytes entry : List ℕ) (groups : List Group) (end : ℕ) (group : Group) (said : read_journal bytes ≡ Ok (reading groups end)) (fits : IsEntryOf group entry) where
  abbrev pub put : List ℕ
  put = overwritten (end + 1) entry bytes

  front : length (take (end + 1) bytes) ≡ end + 1
  front = let at = (byte_at_end bytes (reading groups end) said).0 in length-take-le (end + 1) bytes (omega (arith, at))

  begins : take (end + 1) put ≡ take (end + 1) bytes
  begins = ap (take (end + 1)) (append_assoc (take (end + 1) bytes) entry (drop (end + 1 + length entry) bytes)) ∙ take_at (take (end + 1) bytes) (entry ++ drop (end + 1 + length entry) bytes) (end + 1) front

  ends : drop (end + 1) put ≡ entry ++ drop (end + 1 + length entry) bytes
  ends = ap (drop (end + 1)) (append_assoc (take (end + 1) bytes) entry (drop (end + 1 + length entry) bytes)) ∙ drop_at (take (end + 1) bytes) (entry ++ drop (end + 1 + length entry) bytes) (end + 1) front

  pub still : read_journal put ≡ Ok (reading groups end)
  still = same_front bytes put (reading groups end) said begins

  abbrev rest : List ℕ
  rest = drop (end + 1 + length entry) bytes

  behind : drop (end + 1) put ≡ fits.0 ++ 0 ∷ rest
  behind = ends ∙ ap (λ (xs : List ℕ). xs ++ rest) fits.1 ∙ append_assoc fits.0 (0 ∷ []) rest

  entry_length : end + 1 + length fits.0 ≡ end + length entry
  entry_length = omega (arith, ap length fits.1, length-append fits.0 (0 ∷ []))

  -- any byte that is opened before it makes it count
  pub opened : (mark : ℕ) (image : List ℕ) → (mark == 0) ≡ false → image ≡ take end put ++ mark ∷ drop (end + 1) put → read_journal image ≡ Ok (reading (groups ++ group ∷ []) (end + length entry))
  opened mark image not_zero is =
      entry_added put image fits.0 rest (reading groups end) mark group still not_zero fits.2 (is ∙ ap (λ (xs : List ℕ). take end put ++ mark ∷ xs) behind)
      ∙ ap (λ (n : ℕ). Ok (reading (groups ++ group ∷ []) n)) entry_length

  pub shut : (image : List ℕ) → image ≡ take end put ++ 0 ∷ drop (end + 1) put → image ≡ put
  shut image is =
      is ∙ ap (λ (xs : List ℕ). take end put ++ xs) (sym (byte_at_end put (reading groups end) still).1) ∙ take-append-drop end put

  room : end < length put
  room = (byte_at_end put (reading groups end) still).0

  before_or_after : (image : List ℕ) → MayHaveWritten end 1 (Some (stable put)) image → IsBeforeOrAfter groups group image
  before_or_after image (inl is) = inl (ap entries (stable_image put image is) ∙ ap only_groups still)
  before_or_after image (inr (left, broke, is)) =
      let mark = get_or image end 0 in
      let whole = one_byte_image end put left room broke image is in
      elim (cases_Bool (mark == 0)) [
        | inl zero_byte ↦
            let same : image ≡ put = shut image (whole ∙ ap (λ (m : ℕ). take end put ++ m ∷ drop (end + 1) put) (eqb-true mark 0 zero_byte)) in
            inl (ap entries same ∙ ap only_groups still)
        | inr other ↦ inr (ap only_groups (opened mark image other whole))
      ]

  pub any_outcome : (image : List ℕ) → MayHaveWritten end 1 (Some (stable put)) image → IsBeforeOrAfter groups group image
  any_outcome = before_or_after

  pub added : read_journal (overwritten end (1 ∷ []) put) ≡ Ok (reading (groups ++ group ∷ []) (end + length entry))
  added = opened 1 (overwritten end (1 ∷ []) put) refl (append_assoc (take end put) (1 ∷ []) (drop (end + 1) put))

-- what a crash may leave after a write, whatever its answer

pub before_write : (at n : ℕ) (old : Option Content) (image : List ℕ) → MayLeave old image → MayHaveWritten at n old image
before_write at n None image h = tt
before_write at n (Some held) image h = inl h

pub after_ok : (at : ℕ) (bytes : List ℕ) (old new : Option Content) → ((held : Content) → old ≡ Some held → at ≤ length held.bytes) → new ≡ option_map (with_written at bytes) old
    → (image : List ℕ) → MayLeave new image → MayHaveWritten at (length bytes) old image
after_ok at bytes None new fits is image h = tt
after_ok at bytes (Some held) new fits is image h = inr (with_written at bytes held, whole_write at bytes held (fits held refl), subst (λ (c : Option Content). MayLeave c image) is h)

pub after_sync : (at : ℕ) (bytes : List ℕ) (old mid new : Option Content) → ((held : Content) → old ≡ Some held → (at ≤ length held.bytes) × (held.stable ≤ length held.bytes)) → mid ≡ option_map (with_written at bytes) old
    → new ≡ option_map with_synced mid → (image : List ℕ) → MayLeave new image → MayHaveWritten at (length bytes) old image
after_sync at bytes None mid new fits is synced image h = tt
after_sync at bytes (Some held) mid new fits is synced image h =
    let fit = fits held refl in
    let broke = whole_write at bytes held fit.0 in
    let now : new ≡ Some (stable (overwritten at bytes held.bytes)) = synced ∙ ap (option_map with_synced) is in
    let same : image ≡ overwritten at bytes held.bytes = stable_image (overwritten at bytes held.bytes) image (subst (λ (c : Option Content). MayLeave c image) now h) in
    inr (with_written at bytes held, broke, subst (IsImage (with_written at bytes held)) (sym same) (self_image (with_written at bytes held) (omega (arith, broke.no_shorter, fit.1))))
