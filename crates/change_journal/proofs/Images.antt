-- What a crash leaves around one write, and after a sync.
use Rattle.std.proofs.Common.{◌≡◌, ◌≢◌, ℕ, suc, ◌+◌, ◌-◌, ◌<◌, ◌≤◌, false, List, [], ◌∷◌, ◌++◌, length, take, drop, get_or, set, refl, sym, ap, ◌∙◌, inl, inr, arith, length-append, length-take-le, length-drop}
use Rattle.std.proofs.lemmas.Bool.{cases_eq, cases_lt}
use Rattle.std.proofs.lemmas.Bool.Decides.{nat_tests}
use Rattle.std.proofs.lemmas.List.{take_at, take_all, drop_at, take-append-le, same_lists, get_or-take, get_or-drop, get_or_append_left, get_or-append_right, get_or-set_same, get_or-set_other, length-set, set_split, get_or_default}
use Rattle.disk.specs.declared.range.Range.{Range}
use Rattle.disk.proofs.FillLemmas.{no_nearer}
use Rattle.disk.specs.Disk.{Content, IsImage, BrokeOff, is_within, is_in_doubt, farthest, stable, with_written}

-- the range of a write of n bytes
abbrev pub range : ℕ → ℕ → Range
range at n = record { from = at; to = at + n }

not_within : (i at n : ℕ) → i < at → is_within i (range at n) ≡ false
not_within i at n lt = grind (arith, nat_tests)

outside_range : (i at n : ℕ) (ranges : List Range) → is_within i (range at n) ≡ false → is_in_doubt ranges i ≡ false → is_in_doubt (range at n ∷ ranges) i ≡ false
outside_range i at n ranges h k = rw (h, k) refl

-- bytes that agree up to a place agree at each place before it
get_before : (n : ℕ) (xs ys : List ℕ) (i : ℕ) → take n xs ≡ take n ys → i < n → get_or xs i 0 ≡ get_or ys i 0
get_before n xs ys i same lt = sym (get_or-take n xs i 0 lt) ∙ ap (λ (l : List ℕ). get_or l i 0) same ∙ get_or-take n ys i 0 lt

get_behind : (n : ℕ) (xs ys : List ℕ) (i : ℕ) → drop n xs ≡ drop n ys → n ≤ i → get_or xs i 0 ≡ get_or ys i 0
get_behind n xs ys i same le =
    let at : n + (i - n) ≡ i = omega arith in
    sym (get_or-drop n xs (i - n) 0 ∙ ap (λ (k : ℕ). get_or xs k 0) at) ∙ ap (λ (l : List ℕ). get_or l (i - n) 0) same ∙ get_or-drop n ys (i - n) 0 ∙ ap (λ (k : ℕ). get_or ys k 0) at

-- a write that is done is a case of one that broke off
pub whole_write : (at : ℕ) (bytes : List ℕ) (held : Content) → at ≤ length held.bytes → BrokeOff at (length bytes) held (with_written at bytes held)
whole_write at bytes held within =
    let front : length (take at held.bytes) ≡ at = length-take-le at held.bytes within in
    let head : length (take at held.bytes ++ bytes) ≡ at + length bytes = length-append (take at held.bytes) bytes ∙ ap (λ (n : ℕ). n + length bytes) front in
    let len = length-append (take at held.bytes ++ bytes) (drop (at + length bytes) held.bytes) in
    record {
      before = take-append-le at (take at held.bytes ++ bytes) (drop (at + length bytes) held.bytes) (omega arith) ∙ take-append-le at (take at held.bytes) bytes (omega arith) ∙ take_all at (take at held.bytes) (omega arith);
      after = drop_at (take at held.bytes ++ bytes) (drop (at + length bytes) held.bytes) (at + length bytes) head;
      no_shorter = omega (arith, length-drop (at + length bytes) held.bytes);
      no_longer = omega (arith, length-drop (at + length bytes) held.bytes);
      stable = refl;
      written = refl;
    }

-- Behind the place of a write that broke off, what a crash leaves agrees up to there with what one might have left before.
pub earlier : (at n : ℕ) (held new : Content) → held.stable ≤ length held.bytes → at ≤ length held.bytes → BrokeOff at n held new → (image : List ℕ) → IsImage new image
    → (old : List ℕ) × IsImage held old × (take at image ≡ take at old)
earlier at n held new whole within broke image is = elim (cases_lt (length image) at) [ inl short ↦ (image, as_it_is short, refl) | inr long ↦ (take at image ++ drop at held.bytes, patched_is long, sym (patched_front long)) ]
  where
    stays : (i : ℕ) → i < held.stable → i < at → is_in_doubt held.written i ≡ false → get_or image i 0 ≡ get_or held.bytes i 0
    stays i lt before clear =
        let outside : is_in_doubt new.written i ≡ false = rw broke.written (outside_range i at n held.written (not_within i at n before) clear) in
        let is_stable : i < new.stable = omega (arith, broke.stable) in
        is.same i is_stable outside ∙ get_before at new.bytes held.bytes i broke.before before

    as_it_is : length image < at → IsImage held image
    as_it_is short = record {
      no_shorter = omega (arith, is.no_shorter, broke.stable);
      no_longer = omega (arith, no_nearer (length held.bytes) held.written);
      same = λ i lt clear. stays i lt (omega (arith, is.no_shorter, broke.stable)) clear;
    }

    patched_front : at ≤ length image → take at (take at image ++ drop at held.bytes) ≡ take at image
    patched_front long = take_at (take at image) (drop at held.bytes) at (length-take-le at image long)

    patched_is : at ≤ length image → IsImage held (take at image ++ drop at held.bytes)
    patched_is long =
        let front : length (take at image) ≡ at = length-take-le at image long in
        let len : length (take at image ++ drop at held.bytes) ≡ length held.bytes = omega (arith, length-append (take at image) (drop at held.bytes), length-drop at held.bytes) in
        record {
          no_shorter = omega arith;
          no_longer = omega (arith, no_nearer (length held.bytes) held.written);
          same = λ i lt clear. elim (cases_lt i at) [
            | inl before ↦ get_or_append_left (take at image) (drop at held.bytes) 0 i (omega arith) ∙ get_or-take at image i 0 before ∙ stays i lt before clear
            | inr behind ↦
                let place : at + (i - at) ≡ i = omega arith in
                get_or-append_right (take at image) (drop at held.bytes) at i 0 front behind ∙ get_or-drop at held.bytes (i - at) 0 ∙ ap (λ (k : ℕ). get_or held.bytes k 0) place
          ];
        }

-- after a sync there is one image
pub stable_image : (bytes image : List ℕ) → IsImage (stable bytes) image → image ≡ bytes
stable_image bytes image is =
    let len : length image ≡ length bytes = omega (arith, is.no_shorter, is.no_longer) in
    same_lists image bytes len (λ k d lt. get_or_default image k d 0 lt ∙ is.same k (omega arith) refl ∙ get_or_default bytes k 0 d (omega arith))

-- and after a write over one byte there are those with any byte there
pub one_byte_image : (at : ℕ) (bytes : List ℕ) (new : Content) → at < length bytes → BrokeOff at 1 (stable bytes) new → (image : List ℕ) → IsImage new image
    → image ≡ take at bytes ++ get_or image at 0 ∷ drop (at + 1) bytes
one_byte_image at bytes new lt broke image is =
    let size : length new.bytes ≡ length bytes = omega (arith, broke.no_shorter, broke.no_longer) in
    let reach : farthest (length new.bytes) new.written ≡ length bytes = rw broke.written (omega arith) in
    let len : length image ≡ length bytes = omega (arith, is.no_shorter, is.no_longer, broke.stable) in
    let mark = get_or image at 0 in
    let whole : image ≡ set bytes at mark = same_lists image (set bytes at mark) (len ∙ sym (length-set bytes at mark)) (λ k d below.
    elim (cases_eq k at) [
      | inl here ↦
          let there : get_or (set bytes at mark) k d ≡ mark = ap (λ (i : ℕ). get_or (set bytes at mark) i d) here ∙ get_or-set_same bytes at mark d lt in
          get_or_default image k d 0 below ∙ ap (λ (i : ℕ). get_or image i 0) here ∙ sym there
      | inr other ↦
          let outside : is_in_doubt new.written k ≡ false = rw broke.written (outside_range k at 1 [] (apart k other) refl) in
          get_or_default image k d 0 below ∙ is.same k (omega (arith, broke.stable)) outside ∙ elsewhere k other ∙ get_or_default bytes k 0 d (omega arith) ∙ sym (get_or-set_other bytes at k mark d other)
    ]) in
    let next : suc at ≡ at + 1 = omega arith in
    whole ∙ set_split bytes at mark lt ∙ ap (λ (k : ℕ). take at bytes ++ mark ∷ drop k bytes) next
  where
    apart : (k : ℕ) → k ≢ at → is_within k (range at 1) ≡ false
    apart k other = grind (arith, nat_tests)

    elsewhere : (k : ℕ) → k ≢ at → get_or new.bytes k 0 ≡ get_or bytes k 0
    elsewhere k other = elim (cases_lt k at) [
      | inl before ↦ get_before at new.bytes bytes k broke.before before
      | inr behind ↦ get_behind (at + 1) new.bytes bytes k broke.after (above behind)
    ]
      where
        above : at ≤ k → at + 1 ≤ k
        above behind = grind (arith, nat_tests)
