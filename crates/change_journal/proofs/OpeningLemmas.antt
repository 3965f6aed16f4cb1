-- What stands next in a journal, and what is read of it.
use Rattle.std.proofs.Common.{◌≡◌, ◌⊎◌, inl, inr, ℕ, zero, suc, ◌+◌, ◌-◌, ◌<◌, ◌≤◌, ◌==◌, min, Bool, true, false, cond, nat_le, List, [], ◌∷◌, ◌++◌, length, take, drop, Option, None, Some, Ok, Err, refl, sym, ap, ◌∙◌, arith, length-append, length-drop, length-take-le, take-append-drop}
use Rattle.std.specs.Prelude.{option_map}
use Rattle.std.proofs.Math.Seq.{take-add}
use Rattle.std.proofs.lemmas.Bool.Decides.{nat_tests}
use Rattle.std.proofs.lemmas.List.{take_all, take-take, drop-take, drop-drop}
use Rattle.change_journal.specs.States.{WindowState}
use Rattle.change_journal.specs.Spelled.{Group, group_of}
use Rattle.change_journal.specs.Entries.{number_of, sized_group, entry_behind, with_group, read_entry, read_from}
use Rattle.change_journal.specs.Opening.{IsAhead, read_at, mark_behind, mark_of}
use Rattle.change_journal.specs.declared.mark.Mark.{Mark}
use Rattle.change_journal.specs.declared.mark.Mark.TheVariants as mark
use Rattle.change_journal.proofs.Readings.{passes}

long : (k a b c d : ℕ) (bytes : List ℕ) → 4 ≤ k → mark_behind (take k (a ∷ b ∷ c ∷ d ∷ bytes)) ≡ mark.Sized (number_of a b c d)
long zero a b c d bytes h = absurd (omega arith)
long (suc zero) a b c d bytes h = absurd (omega arith)
long (suc (suc zero)) a b c d bytes h = absurd (omega arith)
long (suc (suc (suc zero))) a b c d bytes h = absurd (omega arith)
long (suc (suc (suc (suc k)))) a b c d bytes h = refl

four : (bytes : List ℕ) (k : ℕ) → 4 ≤ k → mark_behind (take k bytes) ≡ mark_behind bytes
four [] k h = ap mark_behind (take_all k [] (omega arith))
four (a ∷ []) k h = ap mark_behind (take_all k (a ∷ []) (omega arith))
four (a ∷ b ∷ []) k h = ap mark_behind (take_all k (a ∷ b ∷ []) (omega arith))
four (a ∷ b ∷ c ∷ []) k h = ap mark_behind (take_all k (a ∷ b ∷ c ∷ []) (omega arith))
four (a ∷ b ∷ c ∷ d ∷ bytes) k h = long k a b c d bytes h

five : (k : ℕ) (bytes : List ℕ) → 5 ≤ k → mark_of (take k bytes) ≡ mark_of bytes
five zero bytes h = absurd (omega arith)
five (suc k) [] h = refl
five (suc k) (b ∷ bytes) h = ap (λ (m : Mark). cond (b == 0) mark.End m) (four bytes k (omega arith))

-- by what stands first, the rest of a journal says nothing, is at its end or begins with an entry
short_behind : (bytes : List ℕ) → mark_behind bytes ≡ mark.Nothing → entry_behind bytes ≡ None
short_behind [] h = refl
short_behind (a ∷ []) h = refl
short_behind (a ∷ b ∷ []) h = refl
short_behind (a ∷ b ∷ c ∷ []) h = refl
short_behind (a ∷ b ∷ c ∷ d ∷ bytes) h = absurd (cc)

no_end_behind : (bytes : List ℕ) → mark_behind bytes ≡ mark.End → ⊥
no_end_behind [] h = cc
no_end_behind (a ∷ []) h = cc
no_end_behind (a ∷ b ∷ []) h = cc
no_end_behind (a ∷ b ∷ c ∷ []) h = cc
no_end_behind (a ∷ b ∷ c ∷ d ∷ bytes) h = cc

sized_behind : (bytes : List ℕ) (n : ℕ) → mark_behind bytes ≡ mark.Sized n → entry_behind bytes ≡ sized_group n (drop 4 bytes)
sized_behind [] n h = absurd (cc)
sized_behind (a ∷ []) n h = absurd (cc)
sized_behind (a ∷ b ∷ []) n h = absurd (cc)
sized_behind (a ∷ b ∷ c ∷ []) n h = absurd (cc)
sized_behind (a ∷ b ∷ c ∷ d ∷ bytes) n h = let same : number_of a b c d ≡ n = cc in ap (λ (m : ℕ). sized_group m bytes) same

nothing_first : (rest : List ℕ) (place : ℕ) → mark_of rest ≡ mark.Nothing → read_from 0 place rest ≡ Err place
nothing_first [] place h = refl
nothing_first (b ∷ bytes) place h = by_byte (b == 0) refl h
  where
    by_byte : (t : Bool) → (b == 0) ≡ t → cond t mark.End (mark_behind bytes) ≡ mark.Nothing → read_from 0 place (b ∷ bytes) ≡ Err place
    by_byte true is h = absurd (cc)
    by_byte false is h = rw (is, short_behind bytes h) refl

end_first : (rest : List ℕ) (place : ℕ) → mark_of rest ≡ mark.End → read_from 0 place rest ≡ Ok (record { groups = []; end = place })
end_first [] place h = absurd (cc)
end_first (b ∷ bytes) place h = by_byte (b == 0) refl h
  where
    by_byte : (t : Bool) → (b == 0) ≡ t → cond t mark.End (mark_behind bytes) ≡ mark.End → read_from 0 place (b ∷ bytes) ≡ Ok (record { groups = []; end = place })
    by_byte true is h = rw is refl
    by_byte false is h = absurd (no_end_behind bytes h)

sized_first : (rest : List ℕ) (place n : ℕ) → mark_of rest ≡ mark.Sized n → read_from 0 place rest ≡ read_entry (sized_group n (drop 5 rest)) place (λ m. read_from m (place + 1) (drop 1 rest))
sized_first [] place n h = absurd (cc)
sized_first (b ∷ bytes) place n h = by_byte (b == 0) refl h
  where
    by_byte : (t : Bool) → (b == 0) ≡ t → cond t mark.End (mark_behind bytes) ≡ mark.Sized n → read_from 0 place (b ∷ bytes) ≡ read_entry (sized_group n (drop 4 bytes)) place (λ m. read_from m (place + 1) bytes)
    by_byte true is h = absurd (cc)
    by_byte false is h = rw (is, sized_behind bytes n h) refl

no_text : (n : ℕ) (bytes : List ℕ) → group_of (take n bytes) ≡ None → sized_group n bytes ≡ None
no_text n bytes h = by_size (nat_le n (length bytes))
  where
    by_size : (t : Bool) → cond t (option_map {U = Group × ℕ} (λ group. (group, n)) (group_of (take n bytes))) None ≡ None
    by_size true = ap (option_map {U = Group × ℕ} (λ group. (group, n))) h
    by_size false = refl

too_short : (n : ℕ) (bytes : List ℕ) → length bytes < n → sized_group n bytes ≡ None
too_short n bytes h = let no : nat_le n (length bytes) ≡ false = grind (arith, nat_tests) in rw no refl

its_text : (n : ℕ) (bytes : List ℕ) (group : Group) → n ≤ length bytes → group_of (take n bytes) ≡ Some group → sized_group n bytes ≡ Some (group, n)
its_text n bytes group fits means = let yes : nat_le n (length bytes) ≡ true = grind (arith, nat_tests) in rw (yes, means) refl

passed : (n place : ℕ) (bytes : List ℕ) → n ≤ length bytes → read_from n place bytes ≡ read_from 0 (place + n) (drop n bytes)
passed n place bytes fits = ap (read_from n place) (sym (take-append-drop n bytes)) ∙ passes (take n bytes) (drop n bytes) n place (length-take-le n bytes fits)

-- what is ahead of a reader, and what it reads of the bytes of a disk
module _ (s : WindowState) (bytes : List ℕ) (is : IsAhead s bytes) where
  abbrev rest : List ℕ
  rest = drop s.place bytes

  rest_len : length rest ≡ s.size - s.place
  rest_len = length-drop s.place bytes ∙ ap (λ (n : ℕ). n - s.place) (sym is.size)

  pub known : (left : ℕ) → s.place + left ≡ s.size → min left 5 ≤ length s.ahead → mark_of rest ≡ mark_of s.ahead
  known left all enough = elim (either left (length s.ahead) enough) [
    | inl h ↦ sym (ap mark_of is.ahead ∙ five (length s.ahead) rest h)
    | inr h ↦ sym (ap mark_of (is.ahead ∙ take_all (length s.ahead) rest (omega (arith, rest_len))))
  ]
    where
      either : (left k : ℕ) → min left 5 ≤ k → (5 ≤ k) ⊎ (left ≤ k)
      either left k h = grind (arith, nat_tests)

  pub next_nothing : mark_of rest ≡ mark.Nothing → read_at s.place bytes ≡ Err s.place
  next_nothing h = nothing_first rest s.place h

  pub next_end : mark_of rest ≡ mark.End → read_at s.place bytes ≡ Ok (record { groups = []; end = s.place })
  next_end h = end_first rest s.place h

  module _ (n : ℕ) (first : mark_of rest ≡ mark.Sized n) where
    pub next_long : (left : ℕ) → s.place + left ≡ s.size → left < 5 + n → read_at s.place bytes ≡ Err s.place
    next_long left all few =
        sized_first rest s.place n first
        ∙ ap (λ (o : Option (Group × ℕ)). read_entry o s.place (λ m. read_from m (s.place + 1) (drop 1 rest))) (too_short n (drop 5 rest) (grind (arith, length-drop 5 rest, rest_len)))

    text : 5 + n ≤ length s.ahead → take n (drop 5 s.ahead) ≡ take n (drop 5 rest)
    text fits =
        let more = length s.ahead - 5 in
        let whole : length s.ahead ≡ 5 + more = omega arith in
        ap (λ (xs : List ℕ). take n (drop 5 xs)) (is.ahead ∙ ap (λ (k : ℕ). take k rest) whole)
        ∙ ap (take n) (drop-take 5 more rest)
        ∙ take-take n more (drop 5 rest) (omega arith)

    pub next_none : 5 + n ≤ length s.ahead → None ≡ group_of (take n (drop 5 s.ahead)) → read_at s.place bytes ≡ Err s.place
    next_none fits h =
        sized_first rest s.place n first
        ∙ ap (λ (o : Option (Group × ℕ)). read_entry o s.place (λ m. read_from m (s.place + 1) (drop 1 rest))) (no_text n (drop 5 rest) (ap group_of (sym (text fits)) ∙ sym h))

    pub next_entry : (group : Group) (left : ℕ) → s.place + left ≡ s.size → 5 + n ≤ left → 5 + n ≤ length s.ahead → Some group ≡ group_of (take n (drop 5 s.ahead)) → read_at s.place bytes ≡ with_group group (read_at (s.place + (5 + n)) bytes)
    next_entry group left all room fits means =
        let there : 5 + n ≤ length rest = omega (arith, rest_len) in
        let there_behind : 4 + n ≤ length (drop 1 rest) = omega (arith, length-drop 1 rest) in
        let there_text : n ≤ length (drop 5 rest) = omega (arith, length-drop 5 rest) in
        let place : s.place + 1 + (4 + n) ≡ s.place + (5 + n) = omega arith in
        let one : 1 + (4 + n) ≡ 5 + n = omega arith in
        sized_first rest s.place n first
        ∙ ap (λ (o : Option (Group × ℕ)). read_entry o s.place (λ m. read_from m (s.place + 1) (drop 1 rest))) (its_text n (drop 5 rest) group there_text (ap group_of (sym (text fits)) ∙ sym means))
        ∙ ap (with_group group) (passed (4 + n) (s.place + 1) (drop 1 rest) there_behind
        ∙ (λ i. read_from 0 (place i) ((drop-drop (4 + n) 1 rest ∙ ap (λ (k : ℕ). drop k rest) one ∙ drop-drop (5 + n) s.place bytes) i)))

-- bytes that were read behind those ahead are ahead too
pub read_on : (s t : WindowState) (bytes more : List ℕ) (n : ℕ) → IsAhead s bytes → t.size ≡ s.size → t.place ≡ s.place → t.ahead ≡ s.ahead ++ more → more ≡ take n (drop (s.place + length s.ahead) bytes) → length more ≡ n → IsAhead t bytes
read_on s t bytes more n is size place ahead read len =
    let k = length s.ahead in
    let whole : length t.ahead ≡ k + n = ap length ahead ∙ length-append s.ahead more ∙ omega (arith, len) in
    let behind : more ≡ take n (drop k (drop s.place bytes)) = read ∙ ap (take n) (sym (drop-drop k s.place bytes)) in
    record {
      size = size ∙ is.size;
      ahead = ahead ∙ (λ i. is.ahead i ++ behind i) ∙ sym (take-add k n (drop s.place bytes)) ∙ (λ i. take (sym whole i) (drop (sym place i) bytes));
    }

-- and those behind what is passed stay ahead
pub gone_past : (s : WindowState) (bytes : List ℕ) (n : ℕ) → IsAhead s bytes → n ≤ length s.ahead → IsAhead (record { size = s.size; place = s.place + n; ahead = drop n s.ahead }) bytes
gone_past s bytes n is fits =
    let more = length s.ahead - n in
    let whole : length s.ahead ≡ n + more = omega arith in
    let len : more ≡ length (drop n s.ahead) = sym (length-drop n s.ahead) in
    record {
      size = is.size;
      ahead = ap (drop n) (is.ahead ∙ ap (λ (k : ℕ). take k (drop s.place bytes)) whole) ∙ drop-take n more (drop s.place bytes) ∙ (λ i. take (len i) (drop-drop n s.place bytes i));
    }
