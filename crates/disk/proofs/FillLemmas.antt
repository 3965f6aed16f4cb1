-- The image whose bytes in doubt are all one.
use Rattle.std.proofs.Common.{◌≡◌, ℕ, zero, suc, ◌+◌, ◌<◌, ◌≤◌, Bool, true, false, cond, not, ◌&&◌, nat_lt, List, [], ◌∷◌, length, get_or, refl, sym, ap, subst, arith}
use Rattle.std.proofs.lemmas.Bool.Decides.{nat_tests}
use Rattle.disk.specs.Disk.{Content, IsImage, farthest, is_clear, is_in_doubt, filled_from, filled}
use Rattle.disk.specs.declared.range.Range.{Range}

filled_len : (fill : ℕ) (held : Content) (i : ℕ) (bytes : List ℕ) → length (filled_from fill held i bytes) ≡ length bytes
filled_len fill held i [] = refl
filled_len fill held i (b ∷ bytes) = omega (arith, filled_len fill held (i + 1) bytes)

-- no end is nearer than n
pub no_nearer : (n : ℕ) (ranges : List Range) → n ≤ farthest n ranges
no_nearer n [] = omega arith
no_nearer n (range ∷ ranges) = omega (arith, no_nearer n ranges)

clear : (i stable : ℕ) (doubt : Bool) → i < stable → doubt ≡ false → (nat_lt i stable && not doubt) ≡ true
clear i stable doubt lt h = grind (arith, nat_tests)

-- a byte that is not in doubt stays
stays : (fill : ℕ) (held : Content) (i : ℕ) (bytes : List ℕ) (k : ℕ) → k < length bytes → is_clear held.stable held.written (i + k) ≡ true → get_or (filled_from fill held i bytes) k 0 ≡ get_or bytes k 0
stays fill held i [] k lt h = absurd (omega arith)
stays fill held i (b ∷ bytes) zero lt h =
    let here : i + 0 ≡ i = omega arith in
    ap (λ (t : Bool). cond t b fill) (subst (λ (j : ℕ). is_clear held.stable held.written j ≡ true) here h)
stays fill held i (b ∷ bytes) (suc k) lt h =
    let next : i + suc k ≡ i + 1 + k = omega arith in
    stays fill held (i + 1) bytes k (omega arith) (subst (λ (j : ℕ). is_clear held.stable held.written j ≡ true) next h)

pub filled_image : (fill : ℕ) (held : Content) → held.stable ≤ length held.bytes → IsImage held (filled fill held)
filled_image fill held whole = record {
  no_shorter = omega (arith, filled_len fill held 0 held.bytes);
  no_longer = omega (arith, filled_len fill held 0 held.bytes, no_nearer (length held.bytes) held.written);
  same = λ i lt h.
      let here : 0 + i ≡ i = omega arith in
      stays fill held 0 held.bytes i (omega arith) (subst (λ (j : ℕ). is_clear held.stable held.written j ≡ true) (sym here) (clear i held.stable (is_in_doubt held.written i) lt h));
}
