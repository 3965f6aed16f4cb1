-- The sheets of the tests are sheets.
use Rattle.std.proofs.Common.{◌≡◌, [], ◌∷◌, length, refl, sym, ◌∙◌, ap, subst}
use Rattle.std.specs.Prelude.{bytes_eq}
use Rattle.std.specs.List.{IsDistinct}
use Rattle.ss_text.specs.Texts.{Row}
use Rattle.schema_model.specs.Placed.{ArePlaces}
use Rattle.fold_op.specs.Sheets.{IsSheet, FitsSheet, absent}
use Rattle.fold_op.specs.declared.change.SheetChange.TheVariants.{Born}

abbrev pub names : Row
names = (107 ∷ []) ∷ (97 ∷ []) ∷ (98 ∷ []) ∷ []

names_distinct : IsDistinct bytes_eq names
unfolding IsDistinct
names_distinct = ((refl, (refl, tt)), ((refl, tt), (tt, tt)))

pub is_sheet : (attributes first second : Row) → attributes ≡ names → length first ≡ 3 → length second ≡ 3 → IsSheet (attributes, first ∷ second ∷ [])
is_sheet attributes first second e left right = record {
  distinct = subst (IsDistinct bytes_eq) (sym e) names_distinct;
  fits = (left ∙ sym (ap length e), (right ∙ sym (ap length e), tt));
}

pub two_places : (first second : Row) → ArePlaces ((0, first) ∷ (1, second) ∷ [])
unfolding IsDistinct
two_places first second = ((refl, tt), (tt, tt))

pub absent_is_sheet : IsSheet absent
unfolding IsDistinct
absent_is_sheet = record { distinct = tt; fits = tt }

pub no_places : ArePlaces []
unfolding IsDistinct
no_places = tt

pub can_be_born : FitsSheet (Born names) absent
can_be_born = (refl, names_distinct)
