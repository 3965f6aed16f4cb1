-- Worked rows: the offices' departments as columns, and back again over those; and a value that two rows of the level below want for one cell.
use Rattle.std.proofs.Common.{◌≡◌, refl, [], ◌∷◌, Some, None}
use Rattle.std.specs.Prelude.{codes, ℕ}
use Rattle.std.specs.Str.{is_utf8, chars}
use Rattle.ss_text.specs.Texts.{Text, Row}
use Rattle.ss_text.specs.Label.{is_table_label, is_column_label}
use Rattle.schema_model.specs.Catalogue.{CatalogueValue, relation_value, database_value}
use Rattle.schema_model.specs.Changes.{after_all}
use Rattle.schema_model.specs.declared.change.Change.{Change}
use Rattle.schema_model.specs.declared.change.Change.TheVariants.{Insert}
use Rattle.view_def.specs.declared.written.Op.TheVariants.{Ne}
use Rattle.view_def.specs.declared.typed.Place.TheVariants as place
use Rattle.view_def.specs.declared.typed.Term.{Term}
use Rattle.view_def.specs.declared.typed.Term.TheVariants as term
use Rattle.view_def.specs.declared.typed.Range.TheVariants as range
use Rattle.view_def.specs.Conditions.{Compares}
use Rattle.view_def.specs.Query.{Query}
use Rattle.flow_law.specs.declared.line.TableLine.TheVariants.{ColumnPlus, RowPlus, Cell}
use Rattle.flow_law.specs.Facts.{illegal, conflict, refusal_by}
use Rattle.flow_law.specs.FactTables.{tables}
use Rattle.flow_law.specs.Script.{script}
use Rattle.view_meaning.specs.Valuations.{valuations, counts}
use Rattle.view_meaning.specs.Meaning.{meaning, facts}
use Rattle.view_stages.specs.Stages.{refusal_of}
use Rattle.stack_levels.specs.Levels.{refused_at, lines_over, opening_refusal, changing_refusal}

abbrev pub three : Text → Text → Text → Row
three a b c = a ∷ b ∷ c ∷ []

-- ---- there and back
abbrev pub offices : CatalogueValue
offices = database_value (codes "univ-A") (relation_value (codes "salInfo") (three (codes "category") (codes "dept") (codes "salFloor"))
    (three (codes "Prof") (codes "cs") (codes "72000") ∷ three (codes "Prof") (codes "math") (codes "65000") ∷ three (codes "Assoc") (codes "cs") (codes "60000") ∷ []) ∷ []) ∷ []

abbrev pub of_row : ℕ → Text → Term
of_row n attribute = term.Cell n (place.Fixed attribute)

abbrev pub there : Query
there = record {
  view_db = codes "AtoB";
  label = place.Fixed (codes "salInfo");
  constants = codes "category" ∷ [];
  keys = of_row 0 (codes "category") ∷ [];
  spot = Some 1;
  column = Some (place.Var 1);
  value = Some (of_row 0 (codes "salFloor"));
  decls = range.Tuples (place.Fixed (codes "univ-A")) (place.Fixed (codes "salInfo")) ∷ range.Alias 0 (place.Fixed (codes "dept")) ∷ [];
  condition = None;
}

abbrev pub back : Query
back = record {
  view_db = codes "Back";
  label = place.Fixed (codes "salInfo");
  constants = three (codes "category") (codes "dept") (codes "salFloor");
  keys = of_row 1 (codes "category") ∷ term.Var 0 ∷ term.Cell 1 (place.Var 0) ∷ [];
  spot = None;
  column = None;
  value = None;
  decls = range.Attributes (place.Fixed (codes "AtoB")) (place.Fixed (codes "salInfo")) ∷ range.Tuples (place.Fixed (codes "AtoB")) (place.Fixed (codes "salInfo")) ∷ [];
  condition = Some (Compares (term.Var 0) Ne (term.Literal (codes "category")));
}

abbrev pub physics : Change
physics = Insert (codes "univ-A") (codes "salInfo") (three (codes "Prof") (codes "physics") (codes "70000"))

-- neither is refused
both_open : opening_refusal offices (there ∷ back ∷ []) ≡ None
unfolding refusal_of refusal_by illegal conflict is_table_label is_column_label is_utf8 chars lib.Utf8.encode meaning facts valuations counts tables
both_open = refl

both_go_on : changing_refusal offices (after_all offices (physics ∷ [])) (there ∷ back ∷ []) ≡ None
unfolding refusal_of refusal_by illegal conflict is_table_label is_column_label is_utf8 chars lib.Utf8.encode meaning facts valuations counts tables script
both_go_on = refl

-- a new department is a column below and rows above, one of them without a salary
both_lines : lines_over offices (after_all offices (physics ∷ [])) (there ∷ back ∷ [])
    ≡ (ColumnPlus (codes "salInfo") (codes "physics") ∷ Cell (codes "salInfo") (codes "physics") (codes "70000") (codes "Prof" ∷ []) ∷ [])
    ∷ (RowPlus (codes "salInfo") (three (codes "Assoc") (codes "physics") []) ∷ RowPlus (codes "salInfo") (three (codes "Prof") (codes "physics") (codes "70000")) ∷ [])
    ∷ []
unfolding meaning facts valuations counts tables script
both_lines = refl

-- ---- a conflict above
abbrev pub pair_of : CatalogueValue
pair_of = database_value (codes "d") (relation_value (codes "r") (codes "a" ∷ codes "b" ∷ []) ((codes "1" ∷ codes "x" ∷ []) ∷ []) ∷ []) ∷ []

abbrev pub low : Query
low = record {
  view_db = codes "L";
  label = place.Fixed (codes "t");
  constants = codes "a" ∷ codes "b" ∷ [];
  keys = of_row 0 (codes "a") ∷ of_row 0 (codes "b") ∷ [];
  spot = None;
  column = None;
  value = None;
  decls = range.Tuples (place.Fixed (codes "d")) (place.Fixed (codes "r")) ∷ [];
  condition = None;
}

abbrev pub high : Query
high = record {
  view_db = codes "M";
  label = place.Fixed (codes "u");
  constants = codes "a" ∷ [];
  keys = of_row 0 (codes "a") ∷ [];
  spot = Some 1;
  column = Some (place.Var 1);
  value = Some (of_row 0 (codes "b"));
  decls = range.Tuples (place.Fixed (codes "L")) (place.Fixed (codes "t")) ∷ range.Alias 0 (place.Fixed (codes "a")) ∷ [];
  condition = None;
}

abbrev pub other_b : Change
other_b = Insert (codes "d") (codes "r") (codes "1" ∷ codes "y" ∷ [])

abbrev pub clash : Row
clash = codes "conflict" ∷ codes "u" ∷ codes "1" ∷ codes "x" ∷ codes "y" ∷ codes "1" ∷ []

low_alone_goes_on : changing_refusal pair_of (after_all pair_of (other_b ∷ [])) (low ∷ []) ≡ None
unfolding refusal_of refusal_by illegal conflict is_table_label is_column_label is_utf8 chars lib.Utf8.encode meaning facts valuations counts tables script
low_alone_goes_on = refl

high_refuses : changing_refusal pair_of (after_all pair_of (other_b ∷ [])) (low ∷ high ∷ []) ≡ Some (refused_at 2 clash)
unfolding refusal_of refusal_by illegal conflict is_table_label is_column_label is_utf8 chars lib.Utf8.encode meaning facts valuations counts tables script
high_refuses = refl
