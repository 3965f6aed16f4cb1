-- Journals with equal lines have equal groups.
use Rattle.std.proofs.Common.{◌≡◌, ℕ, zero, suc, ◌+◌, ◌==◌, Bool, true, false, cond, nat_le, List, [], ◌∷◌, length, map, take, Option, None, Some, Result, Ok, Err, refl, sym, ap, ◌∙◌, subst}
use Rattle.std.specs.Prelude.{option_map}
use Rattle.std.specs.List.{AllByRecursion}
use Rattle.tab_lines.specs.Parts.{parts_at}
use Rattle.change_journal.specs.Spelled.{Group, spelled, said_by_lines, group_of}
use Rattle.change_journal.specs.Entries.{Reading, number_of, sized_group, entry_behind, with_group, read_entry, read_from, read_journal, only_groups, entries}
use Rattle.change_journal.specs.Journals.{AllHave}
use Rattle.change_journal.specs.Lines.{lines_in, read_lines, LinesTellGroups}
use Rattle.change_journal.proofs.Spellings.{parts_clear, lines_spelled}
use Rattle.change_journal.proofs.Appends.{self_image}

-- a group that its lines say
abbrev pub IsSaid : Group → Type 0
IsSaid group = said_by_lines (map spelled group) ≡ Some group

abbrev pub AllSaid : List Group → Type 0
AllSaid groups = AllByRecursion IsSaid groups

text_said : (text : List ℕ) (group : Group) → group_of text ≡ Some group → IsSaid group
text_said text group e = ap said_by_lines (sym (lines_spelled (parts_at 10 text) group (parts_clear text) e).0) ∙ e

sized_said : (n : ℕ) (bytes : List ℕ) (entry : Group × ℕ) → sized_group n bytes ≡ Some entry → IsSaid entry.0
sized_said n bytes entry e = by_size (nat_le n (length bytes)) e
  where
    found : (o : Option Group) → group_of (take n bytes) ≡ o → option_map (λ (group : Group). (group, n)) o ≡ Some entry → IsSaid entry.0
    found None is e = absurd (cc)
    found (Some group) is e =
        let pair : (group, n) ≡ entry = cc in
        subst (λ (p : Group × ℕ). IsSaid p.0) pair (text_said (take n bytes) group is)

    by_size : (b : Bool) → cond b (option_map (λ (group : Group). (group, n)) (group_of (take n bytes))) None ≡ Some entry → IsSaid entry.0
    by_size true e = found (group_of (take n bytes)) refl e
    by_size false e = absurd (cc)

entry_said : (bytes : List ℕ) (entry : Group × ℕ) → entry_behind bytes ≡ Some entry → IsSaid entry.0
entry_said [] entry e = absurd (cc)
entry_said (a ∷ []) entry e = absurd (cc)
entry_said (a ∷ b ∷ []) entry e = absurd (cc)
entry_said (a ∷ b ∷ c ∷ []) entry e = absurd (cc)
entry_said (a ∷ b ∷ c ∷ d ∷ bytes) entry e = sized_said (number_of a b c d) bytes entry e

-- each group that is read
all_said : (bytes : List ℕ) (passed place : ℕ) (read : Reading) → read_from passed place bytes ≡ Ok read → AllSaid read.groups
all_said [] zero place read e = absurd (cc)
all_said [] (suc passed) place read e = absurd (cc)
all_said (b ∷ bytes) (suc passed) place read e = all_said bytes passed (place + 1) read e
all_said (b ∷ bytes) zero place read e = by_byte (λ n more h. all_said bytes n (place + 1) more h) (b == 0) e
  where
    inner : ((n : ℕ) (more : Reading) → read_from n (place + 1) bytes ≡ Ok more → AllSaid more.groups) → (entry : Group × ℕ) → entry_behind bytes ≡ Some entry → (r : Result Reading ℕ) → read_from (4 + entry.1) (place + 1) bytes ≡ r → with_group entry.0 r ≡ Ok read → AllSaid read.groups
    inner below entry is (Err at) h e = absurd (cc)
    inner below entry is (Ok more) h e =
        let same : record { groups = entry.0 ∷ more.groups; end = more.end } ≡ read = cc in
        subst (λ (r : Reading). AllSaid r.groups) same (entry_said bytes entry is, below (4 + entry.1) more h)

    by_entry : ((n : ℕ) (more : Reading) → read_from n (place + 1) bytes ≡ Ok more → AllSaid more.groups) → (o : Option (Group × ℕ)) → entry_behind bytes ≡ o → read_entry o place (λ n. read_from n (place + 1) bytes) ≡ Ok read → AllSaid read.groups
    by_entry below None is e = absurd (cc)
    by_entry below (Some entry) is e = inner below entry is (read_from (4 + entry.1) (place + 1) bytes) refl e

    by_byte : ((n : ℕ) (more : Reading) → read_from n (place + 1) bytes ≡ Ok more → AllSaid more.groups) → (t : Bool)
        → cond t (Ok (record { groups = []; end = place })) (read_entry (entry_behind bytes) place (λ n. read_from n (place + 1) bytes)) ≡ Ok read
        → AllSaid read.groups
    by_byte below true e =
        let same : record { groups = []; end = place } ≡ read = cc in
        subst (λ (r : Reading). AllSaid r.groups) same tt
    by_byte below false e = by_entry below (entry_behind bytes) refl e

pub entries_said : (image : List ℕ) (groups : List Group) → entries image ≡ Ok groups → AllSaid groups
entries_said image groups e = by_read (read_journal image) refl e
  where
    by_read : (r : Result Reading ℕ) → read_journal image ≡ r → only_groups r ≡ Ok groups → AllSaid groups
    by_read (Err at) is e = absurd (cc)
    by_read (Ok read) is e =
        let same : read.groups ≡ groups = cc in
        subst AllSaid same (all_said image 0 0 read is)

-- groups that their lines say are told apart by them
pub same_groups : (groups others : List Group) → AllSaid groups → AllSaid others → lines_in groups ≡ lines_in others → groups ≡ others
same_groups [] [] h k e = refl
same_groups [] (other ∷ others) h k e = absurd (cc e)
same_groups (group ∷ groups) [] h k e = absurd (cc e)
same_groups (group ∷ groups) (other ∷ others) h k e =
    let first : map spelled group ≡ map spelled other = cc e in
    let rest : lines_in groups ≡ lines_in others = cc e in
    let both : Some group ≡ Some other = sym h.0 ∙ ap said_by_lines first ∙ k.0 in
    let same : group ≡ other = cc both in
    let more = same_groups groups others h.1 k.1 rest in
    ap (λ (g : Group). g ∷ groups) same ∙ ap (λ (gs : List Group). other ∷ gs) more

-- where every crash image has these lines, all have the same groups
pub all_have : LinesTellGroups
all_have None es whole all = let none : read_lines (entries []) ≡ Some es = all [] tt in absurd (cc none)
all_have (Some held) es whole all = by_own (entries held.bytes) refl
  where
    own : read_lines (entries held.bytes) ≡ Some es
    own = all held.bytes (self_image held (whole held refl))

    with_own : (groups : List Group) → entries held.bytes ≡ Ok groups → lines_in groups ≡ es → AllHave groups (Some held)
    with_own groups is lines image h = by_image (entries image) refl
      where
        by_image : (r : Result (List Group) ℕ) → entries image ≡ r → entries image ≡ Ok groups
        by_image (Err at) e = let none : None ≡ Some es = sym (ap read_lines e) ∙ all image h in absurd (cc none)
        by_image (Ok others) e =
            let some : Some (lines_in others) ≡ Some es = sym (ap read_lines e) ∙ all image h in
            let same : lines_in others ≡ es = cc some in
            e ∙ ap Ok (same_groups others groups (entries_said image others e) (entries_said held.bytes groups is) (same ∙ sym lines))

    by_own : (r : Result (List Group) ℕ) → entries held.bytes ≡ r → (groups : List Group) × (lines_in groups ≡ es) × AllHave groups (Some held)
    by_own (Err at) e = let none : None ≡ Some es = sym (ap read_lines e) ∙ own in absurd (cc none)
    by_own (Ok groups) e =
        let some : Some (lines_in groups) ≡ Some es = sym (ap read_lines e) ∙ own in
        let lines : lines_in groups ≡ es = cc some in
        (groups, lines, with_own groups e lines)
