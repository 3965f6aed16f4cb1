-- Numbers whose first digit is no zero.
use Rattle.std.proofs.Common.{◌≡◌, ◌≤◌, ℕ, Bool, true, false, cond, List, [], ◌∷◌, arith, refl}
use Rattle.std.specs.Prelude.{◌==◌, ◌&&◌, nat_le, length, Some, None, IfSome}
use Rattle.std.specs.List.{list_all}
use Rattle.std.specs.Char.{is_ascii_digit, digit_value}
use Rattle.std.specs.Str.Parse.{digits_value}
use Rattle.std.proofs.lemmas.Bool.{false≢true}
use Rattle.std.proofs.lemmas.Bool.Decides.{nat_tests}
use Rattle.std.proofs.lemmas.Str.Parse.{digits_value-take-le}
use Rattle.ss_text.specs.Whole.{is_digits, natural_of}
use Rattle.feed_answers.specs.Lines.{number_of}

-- a digit that is no zero
digit_least : (d : ℕ) → is_ascii_digit d ≡ true → (d == 48) ≡ false → 1 ≤ digit_value d
digit_least d is other = grind (arith, nat_tests)

-- so the number of digits behind it is one at least
digits_least : (d : ℕ) (ds : List ℕ) → is_ascii_digit d ≡ true → (d == 48) ≡ false → 1 ≤ digits_value 10 (d ∷ ds)
digits_least d ds is other =
    omega (arith, digit_least d is other, digits_value-take-le 10 (d ∷ ds) 1 (omega arith))

both : (a b : Bool) → (a && b) ≡ true → (a ≡ true) × (b ≡ true)
both true b e = (refl, e)
both false b e = absurd (false≢true e)

pub number_least : (text : List ℕ) → IfSome (number_of text) (λ n. 1 ≤ n)
number_least [] = tt
number_least (d ∷ ds) = by_zero (d == 48) refl
  where
    by_digits : (b : Bool) → is_digits (d ∷ ds) ≡ b → (d == 48) ≡ false → IfSome (cond b (Some (digits_value 10 (d ∷ ds))) None) (λ n. 1 ≤ n)
    by_digits true is other =
        let all : (is_ascii_digit d && list_all is_ascii_digit ds) ≡ true = (both (nat_le 1 (length (d ∷ ds)) && nat_le (length (d ∷ ds)) 18) (is_ascii_digit d && list_all is_ascii_digit ds) is).1 in
        digits_least d ds (both (is_ascii_digit d) (list_all is_ascii_digit ds) all).0 other
    by_digits false is other = tt

    by_zero : (b : Bool) → (d == 48) ≡ b → IfSome (cond b None (natural_of (d ∷ ds))) (λ n. 1 ≤ n)
    by_zero true is = tt
    by_zero false is = by_digits (is_digits (d ∷ ds)) refl is
