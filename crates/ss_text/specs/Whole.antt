-- The whole number that a text spells: an optional `-`, and then 1 to 18 digits.
use Rattle.std.specs.Prelude.{ℕ, ℤ, pos, neg_ℤ, Bool, ◌==◌, ◌&&◌, nat_le, List, length, drop, slice_index, Option, Some, None, if◌then◌else◌}
use Rattle.std.specs.List.{list_all}
use Rattle.std.specs.Char.{is_ascii_digit}
use Rattle.std.specs.Option.{option_map}
use Rattle.std.specs.Str.Parse.{digits_value}
use Rattle.ss_text.specs.Texts.{Text}

-- 1 to 18 digits, and nothing else
abbrev pub is_digits : List ℕ → Bool
is_digits ds = nat_le 1 (length ds) && nat_le (length ds) 18 && list_all is_ascii_digit ds

-- the number that the digits write
abbrev pub natural_of : List ℕ → Option ℕ
natural_of ds = if is_digits ds then Some (digits_value 10 ds) else None

-- the number of the digits, or its opposite after a `-`
abbrev pub whole_of : Text → Option ℤ
whole_of t =
    if slice_index t 0 == 45
    then option_map (λ n. neg_ℤ (pos n)) (natural_of (drop 1 t))
    else option_map pos (natural_of t)
