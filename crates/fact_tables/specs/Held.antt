-- What holds the values of a key.
use Rattle.std.specs.Prelude.{ℕ, ◌≡◌, [], ◌∷◌, length, slice_index_or}
use Rattle.ss_text.specs.Texts.{Text, Row}
use Rattle.ss_text.specs.Front.{front_of, AreDigits}
use Rattle.fact_tables.specs.declared.values.Held.{Held}
use Rattle.fact_tables.specs.declared.values.Held.TheVariants.{One, Two, Three, Many}

-- the texts in place, or those that are referred to
abbrev pub held_values : Held → Row
held_values (One t) = t.now ∷ []
held_values (Two s t) = s.now ∷ t.now ∷ []
held_values (Three ts front) = ts.now
held_values (Many labels) = labels.now

abbrev pub third_of : Row → Text
third_of ts = slice_index_or ts 2 []

-- the front is that of the third of three values
pub record IsThird (ts : Row) (f : ℕ) : Type 0 where
  pub count : length ts ≡ 3
  pub front : f ≡ front_of 7 (third_of ts)
  pub digits : AreDigits 7 (third_of ts)

abbrev pub HasFront : Held → Type 0
HasFront (Three ts front) = IsThird ts.now front
HasFront h = Unit {0}
