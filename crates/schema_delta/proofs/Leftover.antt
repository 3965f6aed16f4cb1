-- What is left of moves without those that come and go again.
use Rattle.std.proofs.Common.{◌≡◌, ℕ, ◌+◌, ◌-◌, ◌<◌, ◌≤◌, List, [], ◌∷◌, ◌++◌, Bool, true, false, not, ◌&&◌, refl, arith}
use Rattle.std.specs.Prelude.{nat_lt}
use Rattle.std.specs.List.{list_all, AllByRecursion}
use Rattle.ss_text.specs.Texts.{Row}
use Rattle.operator_law.specs.declared.delta.Signed.{Signed}
use Rattle.operator_law.specs.Bags.{weigh, is, all_signed}
use Rattle.operator_law.proofs.Weights.{weigh-append}
use Rattle.operator_law.proofs.Counts.{moves_from_counts}
use Rattle.operator_law.proofs.SignedRows.{come-append, go-append, come-up, go-up, come-down, go-down}
use Rattle.join_delta.specs.Ready.{ups_of, downs_of}
use Rattle.join_delta.proofs.Moved.{come_ups, go_downs}
use Rattle.schema_delta.specs.Net.{SameNet, IsNet}
use Rattle.schema_delta.proofs.Cancelled.{is_self}

-- moves that all come, or all go
pub ups_net : (ms : List Signed) → list_all (λ (m : Signed). m.up) ms ≡ true → IsNet ms
ups_net ms h = record { comes = λ r. true; tells = each ms h }
  where
    one : (b c : Bool) → (b && c) ≡ true → (true ≡ b) × (c ≡ true)
    one true c e = (refl, e)
    one false c e = absurd (cc)

    each : (ms : List Signed) → list_all (λ (m : Signed). m.up) ms ≡ true → AllByRecursion (λ (m : Signed). true ≡ m.up) ms
    each [] h = tt
    each (m ∷ ms) h = let r = one m.up (list_all (λ (m : Signed). m.up) ms) h in (r.0, each ms r.1)

pub downs_net : (ms : List Signed) → list_all (λ (m : Signed). not m.up) ms ≡ true → IsNet ms
downs_net ms h = record { comes = λ r. false; tells = each ms h }
  where
    one : (b c : Bool) → (not b && c) ≡ true → (false ≡ b) × (c ≡ true)
    one false c e = (refl, e)
    one true c e = absurd (cc)

    each : (ms : List Signed) → list_all (λ (m : Signed). not m.up) ms ≡ true → AllByRecursion (λ (m : Signed). false ≡ m.up) ms
    each [] h = tt
    each (m ∷ ms) h = let r = one m.up (list_all (λ (m : Signed). not m.up) ms) h in (r.0, each ms r.1)

module _ (ms : List Signed) (ups downs : List Row) (u : (r : Row) → weigh (is r) ups ≡ weigh (is r) (ups_of ms) - weigh (is r) (downs_of ms)) (d : (r : Row) → weigh (is r) downs ≡ weigh (is r) (downs_of ms) - weigh (is r) (ups_of ms)) where
  abbrev left : List Signed
  left = all_signed true ups ++ all_signed false downs

  -- they are the same in net
  counts_same : (r : Row) → weigh (is r) (ups_of ms ++ downs) + 0 ≡ weigh (is r) (ups ++ downs_of ms) + 0
  counts_same r = omega (arith, u r, d r, weigh-append (is r) (ups_of ms) downs, weigh-append (is r) ups (downs_of ms))

  pub left_same : SameNet ms left
  left_same f =
      let all = moves_from_counts (ups_of ms ++ downs) (ups ++ downs_of ms) [] counts_same f in
      omega (
        arith,
        all,
        weigh-append f (ups_of ms) downs,
        weigh-append f ups (downs_of ms),
        come_ups f ms,
        go_downs f ms,
        come-append f (all_signed true ups) (all_signed false downs),
        go-append f (all_signed true ups) (all_signed false downs),
        come-up f ups,
        go-up f ups,
        come-down f downs,
        go-down f downs,
      )

  -- and no row comes and goes
  abbrev comes_left : Row → Bool
  comes_left r = nat_lt 0 (weigh (is r) ups)

  members : (xs zs : List Row) → ((r : Row) → weigh (is r) xs ≤ weigh (is r) zs) → AllByRecursion (λ x. 0 < weigh (is x) zs) xs
  members [] zs h = tt
  members (x ∷ xs) zs h = (omega (arith, h x, is_self x), members xs zs (λ r. omega (arith, h r)))

  above : (n : ℕ) → 0 < n → nat_lt 0 n ≡ true
  above n h = grind (arith, h)

  below : (n : ℕ) → n ≡ 0 → nat_lt 0 n ≡ false
  below n e = rw e refl

  signed_all : (up : Bool) (xs : List Row) → AllByRecursion (λ x. comes_left x ≡ up) xs → AllByRecursion (λ (m : Signed). comes_left m.row ≡ m.up) (all_signed up xs)
  signed_all up [] h = tt
  signed_all up (x ∷ xs) h = (h.0, signed_all up xs h.1)

  both_all : (P : Signed → Type 0) (ns os : List Signed) → AllByRecursion P ns → AllByRecursion P os → AllByRecursion P (ns ++ os)
  both_all P [] os h g = g
  both_all P (n ∷ ns) os h g = (h.0, both_all P ns os h.1 g)

  each_as : (P Q : Row → Type 0) (xs : List Row) → ((x : Row) → P x → Q x) → AllByRecursion P xs → AllByRecursion Q xs
  each_as P Q [] f h = tt
  each_as P Q (x ∷ xs) f h = (f x h.0, each_as P Q xs f h.1)

  pub left_net : IsNet left
  left_net = record {
    comes = comes_left;
    tells =
        both_all (λ (m : Signed). comes_left m.row ≡ m.up) (all_signed true ups) (all_signed false downs)
        (signed_all true ups (each_as (λ x. 0 < weigh (is x) ups) (λ x. comes_left x ≡ true) ups (λ x h. above (weigh (is x) ups) h) (members ups ups (λ r. omega arith))))
        (signed_all false downs (each_as (λ x. 0 < weigh (is x) downs) (λ x. comes_left x ≡ false) downs (λ x h. below (weigh (is x) ups) (omega (arith, u x, d x, h))) (members downs downs (λ r. omega arith))));
  }
