-- The view of a run is one of the profile.
use Rattle.std.proofs.Common.{◌≡◌, ◌<◌, true, refl, subst, sym, arith}
use Rattle.std.specs.Prelude.{codes, bytes_eq}
use Rattle.std.specs.List.{IsDistinct}
use Rattle.std.specs.Str.{is_utf8, chars}
use Rattle.schema_model.proofs.ReadyLemmas.{same_some}
use Rattle.ss_text.specs.Label.{is_table_label}
use lib.Utf8.{encode}
use Rattle.view_def.specs.declared.typed.Place.{Place}
use Rattle.view_def.specs.declared.typed.Place.TheVariants.{Var}
use Rattle.view_def.specs.Profile.{is_column_over, IsViewOfProfile}
use Rattle.view_def.specs.Query.{Query}
use Rattle.load_run.specs.Start.{query}

name_legal : is_table_label (codes "G") ≡ true
unfolding is_table_label is_utf8 chars encode
name_legal = refl

label_legal : is_table_label (codes "t") ≡ true
unfolding is_table_label is_utf8 chars encode
label_legal = refl

one_apart : IsDistinct bytes_eq query.constants
unfolding IsDistinct
one_apart = (tt, tt)

pub of_profile : IsViewOfProfile query
of_profile = record {
  view_db = name_legal;
  label = label_legal;
  constants = one_apart;
  some_constant = omega arith;
  keys = refl;
  spot = λ s is. omega (arith, same_some 1 s is);
  column = refl;
  value = refl;
  varies = λ p is. subst (λ (x : Place). is_column_over query.decls x ≡ true) (same_some (Var 1) p is) refl;
  some_declaration = omega arith;
  few = omega arith;
  few_over_rows = omega arith;
  ranges = refl;
  terms = refl;
  condition = refl;
  one_fold = λ k u v first second. let none : first.0 < 0 = first.1 in absurd (omega (arith, none));
}

pub view_of_profile : (q : Query) → q ≡ query → IsViewOfProfile q
view_of_profile q is = subst IsViewOfProfile (sym is) of_profile
