-- How a journal is read, and what a change of its bytes does to that.
use Rattle.std.proofs.Common.{◌≡◌, ℕ, zero, suc, ◌+◌, ◌<◌, ◌≤◌, ◌==◌, Bool, true, false, cond, nat_le, List, [], ◌∷◌, ◌++◌, length, take, drop, get_or, Option, None, Some, Result, Ok, Err, refl, sym, ap, ◌∙◌, subst, arith, eqb-true, append_assoc, length-append, length-take-le, take-append-drop}
use Rattle.std.specs.Prelude.{option_map}
use Rattle.std.proofs.lemmas.Bool.Decides.{nat_tests}
use Rattle.std.proofs.lemmas.List.{take-append-le, take_at, drop_more}
use Rattle.change_journal.specs.Spelled.{Group, group_text, group_of}
use Rattle.change_journal.specs.Entries.{Reading, number_of, sized_group, entry_behind, with_group, with_groups, read_entry, read_from, read_journal, only_groups, entries, size_of, IsSized}
use Rattle.change_journal.proofs.Spellings.{text_is}

sized_kept : (n : ℕ) (front more tail : List ℕ) (entry : Group × ℕ) → sized_group n (front ++ more) ≡ Some entry → entry.1 ≤ length front → (entry.1 ≡ n) × (sized_group n (front ++ tail) ≡ Some entry)
sized_kept n front more tail entry is fits = by_size (nat_le n (length (front ++ more))) refl is
  where
    found : (o : Option Group) → option_map (λ (group : Group). (group, n)) o ≡ Some entry → entry.1 ≡ n
    found None e = absurd (cc)
    found (Some group) e = let pair : (group, n) ≡ entry = cc in sym (ap (λ (p : Group × ℕ). p.1) pair)

    kept : entry.1 ≡ n → option_map (λ (group : Group). (group, n)) (group_of (take n (front ++ more))) ≡ Some entry → sized_group n (front ++ tail) ≡ Some entry
    kept same e =
        let long : nat_le n (length (front ++ tail)) ≡ true = grind (arith, nat_tests, length-append front tail) in
        rw (long, take-append-le n front tail (omega arith), ← take-append-le n front more (omega arith)) e

    by_size : (b : Bool) → nat_le n (length (front ++ more)) ≡ b → cond b (option_map (λ (group : Group). (group, n)) (group_of (take n (front ++ more)))) None ≡ Some entry
        → (entry.1 ≡ n) × (sized_group n (front ++ tail) ≡ Some entry)
    by_size true h e = let same = found (group_of (take n (front ++ more))) e in (same, kept same e)
    by_size false h e = absurd (cc)

-- an entry is read from its own bytes
entry_kept : (front more tail : List ℕ) (entry : Group × ℕ) → entry_behind (front ++ more) ≡ Some entry → 4 + entry.1 ≤ length front → entry_behind (front ++ tail) ≡ Some entry
entry_kept [] more tail entry is fits = absurd (omega arith)
entry_kept (a ∷ []) more tail entry is fits = absurd (omega arith)
entry_kept (a ∷ b ∷ []) more tail entry is fits = absurd (omega arith)
entry_kept (a ∷ b ∷ c ∷ []) more tail entry is fits = absurd (omega arith)
entry_kept (a ∷ b ∷ c ∷ d ∷ front) more tail entry is fits = (sized_kept (number_of a b c d) front more tail entry is (omega arith)).1

-- what was read stands in front of a byte 0, and is read from there whatever follows
pub record Front (passed place : ℕ) (bytes : List ℕ) (read : Reading) : Type 0 where
  pub front : List ℕ
  pub rest : List ℕ
  pub split : bytes ≡ front ++ 0 ∷ rest
  pub end : read.end ≡ place + length front
  pub enough : passed ≤ length front
  pub goes_on : (tail : List ℕ) → read_from passed place (front ++ tail) ≡ with_groups read.groups (read_from 0 read.end tail)

reads_entry : (b place : ℕ) (bytes : List ℕ) (entry : Group × ℕ) → (b == 0) ≡ false → entry_behind bytes ≡ Some entry → read_from 0 place (b ∷ bytes) ≡ with_group entry.0 (read_from (4 + entry.1) (place + 1) bytes)
reads_entry b place bytes entry other is = rw (other, is) refl

ended : (place b : ℕ) (bytes : List ℕ) (read : Reading) → b ≡ 0 → record { groups = []; end = place } ≡ read → Front 0 place (b ∷ bytes) read
ended place b bytes read zero_byte same = subst (Front 0 place (b ∷ bytes)) same (record {
  front = [];
  rest = bytes;
  split = ap (λ (x : ℕ). x ∷ bytes) zero_byte;
  end = omega arith;
  enough = omega arith;
  goes_on = λ tail. refl;
})

one_more : (b place : ℕ) (bytes : List ℕ) (entry : Group × ℕ) (read : Reading) → (b == 0) ≡ false → entry_behind bytes ≡ Some entry → Front (4 + entry.1) (place + 1) bytes read
    → Front 0 place (b ∷ bytes) (record { groups = entry.0 ∷ read.groups; end = read.end })
one_more b place bytes entry read other is f = record {
  front = b ∷ f.front;
  rest = f.rest;
  split = ap (λ (xs : List ℕ). b ∷ xs) f.split;
  end = omega (arith, f.end);
  enough = omega arith;
  goes_on = λ tail.
      let kept = entry_kept f.front (0 ∷ f.rest) tail entry (subst (λ (xs : List ℕ). entry_behind xs ≡ Some entry) f.split is) f.enough in
      reads_entry b place (f.front ++ tail) entry other kept ∙ ap (with_group entry.0) (f.goes_on tail);
}

pub fronts : (bytes : List ℕ) (passed place : ℕ) (read : Reading) → read_from passed place bytes ≡ Ok read → Front passed place bytes read
fronts [] zero place read e = absurd (cc)
fronts [] (suc passed) place read e = absurd (cc)
fronts (b ∷ bytes) (suc passed) place read e =
    let f = fronts bytes passed (place + 1) read e in
    record {
      front = b ∷ f.front;
      rest = f.rest;
      split = ap (λ (xs : List ℕ). b ∷ xs) f.split;
      end = omega (arith, f.end);
      enough = omega (arith, f.enough);
      goes_on = λ tail. f.goes_on tail;
    }
fronts (b ∷ bytes) zero place read e = by_byte (λ n more h. fronts bytes n (place + 1) more h) (b == 0) refl e
  where
    inner : ((n : ℕ) (more : Reading) → read_from n (place + 1) bytes ≡ Ok more → Front n (place + 1) bytes more) → (entry : Group × ℕ) → (b == 0) ≡ false → entry_behind bytes ≡ Some entry → (r : Result Reading ℕ) → read_from (4 + entry.1) (place + 1) bytes ≡ r → with_group entry.0 r ≡ Ok read → Front 0 place (b ∷ bytes) read
    inner below entry other is (Err at) h e = absurd (cc)
    inner below entry other is (Ok more) h e =
        let same : record { groups = entry.0 ∷ more.groups; end = more.end } ≡ read = cc in
        subst (Front 0 place (b ∷ bytes)) same (one_more b place bytes entry more other is (below (4 + entry.1) more h))

    by_entry : ((n : ℕ) (more : Reading) → read_from n (place + 1) bytes ≡ Ok more → Front n (place + 1) bytes more) → (b == 0) ≡ false → (o : Option (Group × ℕ)) → entry_behind bytes ≡ o → read_entry o place (λ n. read_from n (place + 1) bytes) ≡ Ok read → Front 0 place (b ∷ bytes) read
    by_entry below other None is e = absurd (cc)
    by_entry below other (Some entry) is e = inner below entry other is (read_from (4 + entry.1) (place + 1) bytes) refl e

    by_byte : ((n : ℕ) (more : Reading) → read_from n (place + 1) bytes ≡ Ok more → Front n (place + 1) bytes more) → (t : Bool) → (b == 0) ≡ t
        → cond t (Ok (record { groups = []; end = place })) (read_entry (entry_behind bytes) place (λ n. read_from n (place + 1) bytes)) ≡ Ok read
        → Front 0 place (b ∷ bytes) read
    by_byte below true is e = ended place b bytes read (eqb-true b 0 is) cc
    by_byte below false is e = by_entry below is (entry_behind bytes) refl e

-- the first byte of the front of a list
take_one_more : (n : ℕ) (front rest other : List ℕ) (b : ℕ) → length front ≡ n → take (n + 1) other ≡ take (n + 1) (front ++ b ∷ rest) → other ≡ front ++ b ∷ drop (n + 1) other
take_one_more n front rest other b len same =
    let begins : take (n + 1) (front ++ b ∷ rest) ≡ front ++ b ∷ [] =
    ap (λ (xs : List ℕ). take (n + 1) xs) (sym (append_assoc front (b ∷ []) rest)) ∙ take_at (front ++ b ∷ []) rest (n + 1) (omega (arith, length-append front (b ∷ []))) in
    sym (take-append-drop (n + 1) other) ∙ ap (λ (xs : List ℕ). xs ++ drop (n + 1) other) (same ∙ begins) ∙ append_assoc front (b ∷ []) (drop (n + 1) other)

pub with_groups_end : (groups : List Group) (end : ℕ) → with_groups groups (Ok (record { groups = []; end = end })) ≡ Ok (record { groups = groups; end = end })
with_groups_end [] end = refl
with_groups_end (group ∷ groups) end = rw (with_groups_end groups end) refl

with_groups_one : (groups : List Group) (group : Group) (end : ℕ) → with_groups groups (Ok (record { groups = group ∷ []; end = end })) ≡ Ok (record { groups = groups ++ group ∷ []; end = end })
with_groups_one [] group end = refl
with_groups_one (g ∷ groups) group end = rw (with_groups_one groups group end) refl

-- the byte at the end of a journal is a 0
pub byte_at_end : (bytes : List ℕ) (read : Reading) → read_journal bytes ≡ Ok read → (read.end < length bytes) × (drop read.end bytes ≡ 0 ∷ drop (read.end + 1) bytes)
byte_at_end bytes read is =
    let f = fronts bytes 0 0 read is in
    let within : read.end < length bytes = omega (arith, f.end, ap length f.split, length-append f.front (0 ∷ f.rest)) in
    let byte : get_or bytes read.end 0 ≡ 0 = ap (λ (xs : List ℕ). get_or xs read.end 0) f.split ∙ get_at f.front f.rest read.end (omega (arith, f.end)) in
    (within, drop_more bytes read.end 0 within ∙ ap (λ (x : ℕ). x ∷ drop (read.end + 1) bytes) byte)
  where
    get_at : (front rest : List ℕ) (n : ℕ) → length front ≡ n → get_or (front ++ 0 ∷ rest) n 0 ≡ 0
    get_at [] rest zero h = refl
    get_at [] rest (suc n) h = absurd (omega arith)
    get_at (x ∷ front) rest zero h = absurd (omega arith)
    get_at (x ∷ front) rest (suc n) h = get_at front rest n (omega arith)

-- bytes that are the same up to and with that byte say the same
pub same_front : (bytes other : List ℕ) (read : Reading) → read_journal bytes ≡ Ok read → take (read.end + 1) other ≡ take (read.end + 1) bytes → read_journal other ≡ Ok read
same_front bytes other read is same =
    let f = fronts bytes 0 0 read is in
    let len : length f.front ≡ read.end = omega (arith, f.end) in
    let whole : other ≡ f.front ++ 0 ∷ drop (read.end + 1) other = take_one_more read.end f.front f.rest other 0 len (same ∙ ap (λ (xs : List ℕ). take (read.end + 1) xs) f.split) in
    ap read_journal whole ∙ f.goes_on (0 ∷ drop (read.end + 1) other) ∙ with_groups_end read.groups read.end

pub passes : (front tail : List ℕ) (n place : ℕ) → length front ≡ n → read_from n place (front ++ tail) ≡ read_from 0 (place + n) tail
passes [] tail zero place h = ap (λ (p : ℕ). read_from 0 p tail) (omega arith)
passes [] tail (suc n) place h = absurd (omega arith)
passes (x ∷ front) tail zero place h = absurd (omega arith)
passes (x ∷ front) tail (suc n) place h = let p : place + 1 + n ≡ place + suc n = omega arith in passes front tail n (place + 1) (omega arith) ∙ ap (λ (q : ℕ). read_from 0 q tail) p

sized_whole : (text rest : List ℕ) (n : ℕ) (group : Group) → n ≡ length text → group_of text ≡ Some group → sized_group n (text ++ rest) ≡ Some (group, n)
sized_whole text rest n group len means =
    let long : nat_le n (length (text ++ rest)) ≡ true = grind (arith, nat_tests, length-append text rest) in
    rw (long, take_at text rest n (sym len), means) refl

-- an entry with a byte 0 behind it
pub entry_read : (mark place : ℕ) (sized rest : List ℕ) (group : Group) → (mark == 0) ≡ false → IsSized sized group → read_from 0 place (mark ∷ sized ++ 0 ∷ rest) ≡ Ok (record { groups = group ∷ []; end = place + 1 + length sized })
entry_read mark place sized rest group other is =
    let n = length is.text in
    let behind : entry_behind (sized ++ 0 ∷ rest) ≡ Some (group, n) =
    rw (is.bytes, is.size) (sized_whole is.text (0 ∷ rest) n group refl is.means) in
    let len : length sized ≡ 4 + n = ap length is.bytes ∙ omega arith in
    reads_entry mark place (sized ++ 0 ∷ rest) (group, n) other behind
    ∙ ap (with_group group) (passes sized (0 ∷ rest) (4 + n) (place + 1) len)
    ∙ ap (λ (p : ℕ). Ok (record { groups = group ∷ []; end = p })) (omega arith)

-- a journal with one entry more behind those that it says
pub entry_added : (bytes other sized rest : List ℕ) (read : Reading) (mark : ℕ) (group : Group) → read_journal bytes ≡ Ok read → (mark == 0) ≡ false → IsSized sized group
    → other ≡ take read.end bytes ++ (mark ∷ sized ++ 0 ∷ rest) → read_journal other ≡ Ok (record { groups = read.groups ++ group ∷ []; end = read.end + 1 + length sized })
entry_added bytes other sized rest read mark group is not_zero fits whole =
    let f = fronts bytes 0 0 read is in
    let len : length f.front ≡ read.end = omega (arith, f.end) in
    let front : take read.end bytes ≡ f.front = ap (λ (xs : List ℕ). take read.end xs) f.split ∙ take_at f.front (0 ∷ f.rest) read.end len in
    ap read_journal (whole ∙ ap (λ (xs : List ℕ). xs ++ (mark ∷ sized ++ 0 ∷ rest)) front)
    ∙ f.goes_on (mark ∷ sized ++ 0 ∷ rest)
    ∙ ap (with_groups read.groups) (entry_read mark read.end sized rest group not_zero fits)
    ∙ with_groups_one read.groups group (read.end + 1 + length sized)

-- the end of a journal follows from its groups
sized_end : (n : ℕ) (bytes : List ℕ) (entry : Group × ℕ) → sized_group n bytes ≡ Some entry → length (group_text entry.0) ≡ entry.1
sized_end n bytes entry is = by_size (nat_le n (length bytes)) refl is
  where
    found : nat_le n (length bytes) ≡ true → (o : Option Group) → group_of (take n bytes) ≡ o → option_map (λ (group : Group). (group, n)) o ≡ Some entry → length (group_text entry.0) ≡ entry.1
    found fits None h e = absurd (cc)
    found fits (Some group) h e =
        let pair : (group, n) ≡ entry = cc in
        let text : take n bytes ≡ group_text group = text_is (take n bytes) group h in
        let within : n ≤ length bytes = grind (arith, nat_tests) in
        let len : length (group_text group) ≡ n = ap length (sym text) ∙ length-take-le n bytes within in
        subst (λ (p : Group × ℕ). length (group_text p.0) ≡ p.1) pair len

    by_size : (b : Bool) → nat_le n (length bytes) ≡ b → cond b (option_map (λ (group : Group). (group, n)) (group_of (take n bytes))) None ≡ Some entry → length (group_text entry.0) ≡ entry.1
    by_size true h e = found h (group_of (take n bytes)) refl e
    by_size false h e = absurd (cc)

entry_end : (bytes : List ℕ) (entry : Group × ℕ) → entry_behind bytes ≡ Some entry → length (group_text entry.0) ≡ entry.1
entry_end [] entry is = absurd (cc)
entry_end (a ∷ []) entry is = absurd (cc)
entry_end (a ∷ b ∷ []) entry is = absurd (cc)
entry_end (a ∷ b ∷ c ∷ []) entry is = absurd (cc)
entry_end (a ∷ b ∷ c ∷ d ∷ bytes) entry is = sized_end (number_of a b c d) bytes entry is

ends_at : (bytes : List ℕ) (passed place : ℕ) (read : Reading) → read_from passed place bytes ≡ Ok read → read.end ≡ place + passed + size_of read.groups
ends_at [] zero place read e = absurd (cc)
ends_at [] (suc passed) place read e = absurd (cc)
ends_at (b ∷ bytes) (suc passed) place read e = let h = ends_at bytes passed (place + 1) read e in omega (arith, h)
ends_at (b ∷ bytes) zero place read e = by_byte (λ n more h. ends_at bytes n (place + 1) more h) (b == 0) e
  where
    inner : ((n : ℕ) (more : Reading) → read_from n (place + 1) bytes ≡ Ok more → more.end ≡ place + 1 + n + size_of more.groups) → (entry : Group × ℕ) → entry_behind bytes ≡ Some entry → (r : Result Reading ℕ) → read_from (4 + entry.1) (place + 1) bytes ≡ r → with_group entry.0 r ≡ Ok read → read.end ≡ place + 0 + size_of read.groups
    inner below entry is (Err at) h e = absurd (cc)
    inner below entry is (Ok more) h e =
        let same : record { groups = entry.0 ∷ more.groups; end = more.end } ≡ read = cc in
        let len = entry_end bytes entry is in
        let rest = below (4 + entry.1) more h in
        subst (λ (r : Reading). r.end ≡ place + 0 + size_of r.groups) same (omega (arith, len, rest))

    by_entry : ((n : ℕ) (more : Reading) → read_from n (place + 1) bytes ≡ Ok more → more.end ≡ place + 1 + n + size_of more.groups) → (o : Option (Group × ℕ)) → entry_behind bytes ≡ o → read_entry o place (λ n. read_from n (place + 1) bytes) ≡ Ok read → read.end ≡ place + 0 + size_of read.groups
    by_entry below None is e = absurd (cc)
    by_entry below (Some entry) is e = inner below entry is (read_from (4 + entry.1) (place + 1) bytes) refl e

    by_byte : ((n : ℕ) (more : Reading) → read_from n (place + 1) bytes ≡ Ok more → more.end ≡ place + 1 + n + size_of more.groups) → (t : Bool) → cond t (Ok (record { groups = []; end = place })) (read_entry (entry_behind bytes) place (λ n. read_from n (place + 1) bytes)) ≡ Ok read → read.end ≡ place + 0 + size_of read.groups
    by_byte below true e =
        let same : record { groups = []; end = place } ≡ read = cc in
        subst (λ (r : Reading). r.end ≡ place + 0 + size_of r.groups) same (omega arith)
    by_byte below false e = by_entry below (entry_behind bytes) refl e

pub read_is : (bytes : List ℕ) (groups : List Group) → entries bytes ≡ Ok groups → read_journal bytes ≡ Ok (record { groups = groups; end = size_of groups })
read_is bytes groups e = by_reading (read_journal bytes) refl e
  where
    by_reading : (r : Result Reading ℕ) → read_journal bytes ≡ r → only_groups r ≡ Ok groups → r ≡ Ok (record { groups = groups; end = size_of groups })
    by_reading (Err at) h e = absurd (cc)
    by_reading (Ok read) h e =
        let same : read.groups ≡ groups = cc in
        let end : read.end ≡ size_of groups = ends_at bytes 0 0 read h ∙ (λ i. 0 + 0 + size_of (same i)) ∙ omega arith in
        λ i. Ok (record { groups = same i; end = end i })
