-- The two steps in which a group is added, over a disk that may tell nothing.
use Rattle.std.proofs.Common.{◌≡◌, ℕ, ◌+◌, ◌≤◌, List, [], ◌∷◌, ◌++◌, length, take, drop, Option, None, Some, Result, Ok, Err, refl, sym, ap, ◌∙◌, subst, arith, append_assoc, length-take-le}
use Rattle.std.specs.Prelude.{option_map, OnOk}
use Rattle.std.proofs.lemmas.List.{take_at}
use Rattle.disk.specs.Disk.{Content, IsImage, MayLeave, stable, overwritten}
use Rattle.change_journal.specs.Spelled.{Group}
use Rattle.change_journal.specs.Entries.{read_journal, only_groups, entries}
use Rattle.change_journal.specs.Journals.{IsOpenAt, AllHave, IsBeforeOrAfter, MayHaveWritten, IsEntryOf}
use Rattle.change_journal.proofs.Readings.{byte_at_end, same_front}
use Rattle.change_journal.proofs.Images.{stable_image}
use Rattle.change_journal.proofs.Appends.{self_image, told_of, reading, all_read, staged, any_outcome, added}

-- after bytes were written at a place and made stable
abbrev pub after_stable : ℕ → List ℕ → Option Content → Option Content
after_stable at bytes old = option_map (λ held. stable (overwritten at bytes held.bytes)) old

abbrev pub IsWhole : Option Content → Type 0
IsWhole content = (held : Content) → content ≡ Some held → held.stable ≤ length held.bytes

pub on_ok : {T E : Type 0} (r : Result T E) {P Q : Type 0} → (P → Q) → OnOk r P → OnOk r Q
on_ok (Ok x) f h = f h
on_ok (Err e) f h = h

same_content : (a b : Content) (c : Option Content) → c ≡ Some a → c ≡ Some b → a ≡ b
same_content a b c e h = let both : Some a ≡ Some b = sym e ∙ h in cc

pub open_within : (end : ℕ) (content : Option Content) → IsOpenAt end content → (held : Content) → content ≡ Some held → end + 1 ≤ length held.bytes
open_within end content opened held told =
    let o = opened held told in
    let at = (byte_at_end held.bytes (reading o.0 end) o.1).0 in
    omega (arith, at)

kept_behind : (bytes entry : List ℕ) (groups : List Group) (end : ℕ) → read_journal bytes ≡ Ok (reading groups end) → read_journal (overwritten (end + 1) entry bytes) ≡ Ok (reading groups end)
kept_behind bytes entry groups end said =
    let at = (byte_at_end bytes (reading groups end) said).0 in
    let front : length (take (end + 1) bytes) ≡ end + 1 = length-take-le (end + 1) bytes (omega (arith, at)) in
    let rest = drop (end + 1 + length entry) bytes in
    same_front bytes (overwritten (end + 1) entry bytes) (reading groups end) said
    (ap (take (end + 1)) (append_assoc (take (end + 1) bytes) entry rest) ∙ take_at (take (end + 1) bytes) (entry ++ rest) (end + 1) front)

-- what is written behind the end of a journal leaves it as it is
pub still_open : (end : ℕ) (entry : List ℕ) (old mid : Option Content) → IsOpenAt end old → mid ≡ after_stable (end + 1) entry old → IsOpenAt end mid
still_open end entry None mid opened is held told = let none : None ≡ Some held = sym is ∙ told in absurd (cc)
still_open end entry (Some first) mid opened is held told =
    let o = opened first refl in
    let same : stable (overwritten (end + 1) entry first.bytes) ≡ held = same_content (stable (overwritten (end + 1) entry first.bytes)) held mid is told in
    subst (λ (c : Content). (groups : List Group) × (read_journal c.bytes ≡ Ok (record { groups = groups; end = end }))) same (o.0, kept_behind first.bytes entry o.0 end o.1)

pub added_open : (end : ℕ) (entry : List ℕ) (group : Group) (old mid new : Option Content) → IsOpenAt end old → IsEntryOf group entry → mid ≡ after_stable (end + 1) entry old → new ≡ after_stable end (1 ∷ []) mid → IsOpenAt (end + length entry) new
added_open end entry group None mid new opened fits is then held told = let none : None ≡ Some held = sym (then ∙ ap (after_stable end (1 ∷ [])) is) ∙ told in absurd (cc)
added_open end entry group (Some first) mid new opened fits is then held told =
    let o = opened first refl in
    let put = overwritten (end + 1) entry first.bytes in
    let same : stable (overwritten end (1 ∷ []) put) ≡ held = same_content (stable (overwritten end (1 ∷ []) put)) held new (then ∙ ap (after_stable end (1 ∷ [])) is) told in
    subst (λ (c : Content). (groups : List Group) × (read_journal c.bytes ≡ Ok (record { groups = groups; end = end + length entry }))) same
    (o.0 ++ group ∷ [], added first.bytes entry o.0 end group o.1 fits)

module _ (groups : List Group) (end : ℕ) (old : Option Content) (all : AllHave groups old) (opened : IsOpenAt end old) (whole : IsWhole old) where
  -- what is told, and what its images say
  all_say : (held : Content) → old ≡ Some held → (image : List ℕ) → IsImage held image → read_journal image ≡ Ok (reading groups end)
  all_say held told image is =
      let o = opened held told in
      all_read groups o.0 end held (subst (AllHave groups) told all) (whole held told) o.1 image is

  pub first_outcome : (n : ℕ) (image : List ℕ) → MayHaveWritten (end + 1) n old image → entries image ≡ Ok groups
  first_outcome n image may =
      let told = told_of groups old all in
      ap only_groups (staged groups end told.0 (whole told.0 told.1) (all_say told.0 told.1) n image (subst (λ (c : Option Content). MayHaveWritten (end + 1) n c image) told.1 may))

  module _ (entry : List ℕ) (mid : Option Content) (is : mid ≡ after_stable (end + 1) entry old) where
    abbrev first : Content
    first = (told_of groups old all).0

    is_told : old ≡ Some first
    is_told = (told_of groups old all).1

    said : read_journal first.bytes ≡ Ok (reading groups end)
    said = all_say first is_told first.bytes (self_image first (whole first is_told))

    mid_is : mid ≡ Some (stable (overwritten (end + 1) entry first.bytes))
    mid_is = is ∙ ap (after_stable (end + 1) entry) is_told

    pub still_all : AllHave groups mid
    still_all image h =
        let put = overwritten (end + 1) entry first.bytes in
        let same : image ≡ put = stable_image put image (subst (λ (c : Option Content). MayLeave c image) mid_is h) in
        ap entries same ∙ ap only_groups (kept_behind first.bytes entry groups end said)

    module _ (group : Group) (fits : IsEntryOf group entry) where
      pub second_outcome : (image : List ℕ) → MayHaveWritten end 1 mid image → IsBeforeOrAfter groups group image
      second_outcome image may = any_outcome first.bytes entry groups end group said fits image (subst (λ (c : Option Content). MayHaveWritten end 1 c image) mid_is may)

      pub added_all : (new : Option Content) → new ≡ after_stable end (1 ∷ []) mid → AllHave (groups ++ group ∷ []) new
      added_all new then image h =
          let put = overwritten (end + 1) entry first.bytes in
          let now : new ≡ Some (stable (overwritten end (1 ∷ []) put)) = then ∙ ap (after_stable end (1 ∷ [])) mid_is in
          let same : image ≡ overwritten end (1 ∷ []) put = stable_image (overwritten end (1 ∷ []) put) image (subst (λ (c : Option Content). MayLeave c image) now h) in
          ap entries same ∙ ap only_groups (added first.bytes entry groups end group said fits)
