-- What a plan of a view is made of.
use Rattle.std.specs.Prelude.{◌≡◌, Bool, ◌&&◌, List, [], ◌++◌, map, zip, option_map, option_to_list, Option, Some, None, if◌then◌else◌}
use Rattle.ss_text.specs.Texts.{Text, Row}
use Rattle.view_def.specs.declared.typed.Term.{Term}
use Rattle.view_def.specs.Query.{Query}
use Rattle.view_def.specs.Terms.{terms_of_filter}
use Rattle.flow_law.specs.Facts.{Fact}
use Rattle.flow_law.specs.FactRows.{fact_row}
use Rattle.view_meaning.specs.Terms.{are_defined}
use Rattle.view_meaning.specs.Valuations.{meets, counts}
use Rattle.view_meaning.specs.Meaning.{given, term_of, fact_of}
use Rattle.plan_law.specs.Columns.{read}
use Rattle.plan_law.specs.PlanRows.{plan_header}
use Rattle.plan_form.specs.declared.cell.Cell.{Cell}
use Rattle.plan_form.specs.declared.output.Output.{Output}
use Rattle.plan_form.specs.declared.form.Form.{Form}
use Rattle.plan_form.specs.Cells.{text_in}
use Rattle.plan_form.specs.Tests.{cell_term, at_row, condition_in, cell_for, placed}
use Rattle.plan_form.specs.Bases.{base_value, bases_from}

-- the terms of an output over the places of a row
abbrev pub output_terms : Output → List Term
output_terms o = map cell_term o.keys.items ++ option_to_list (option_map cell_term o.value) ++ terms_of_filter (option_map condition_in o.filter)

-- whether a row has them, and its condition is true
abbrev pub counts_at : Output → Row → Bool
counts_at o row = are_defined (at_row row) (output_terms o) && meets (at_row row) (option_map condition_in o.filter)

abbrev pub cell_at : Row → Option Cell → Option Cell → Option (Text × Text)
cell_at row (Some p) (Some t) = Some (given (text_in row p), given (text_in row t))
cell_at row (Some p) None = None
cell_at row None t = None

-- the fact of a row
abbrev pub fact_at : Output → Row → Fact
fact_at o row = record {
  label = given (text_in row o.label);
  key = map (λ c. given (text_in row c)) o.keys.items;
  cell = cell_at row o.column o.value;
}

-- as a row, where the row counts
abbrev pub fact_row_at : Output → Row → Option Row
fact_row_at o row = if counts_at o row then Some (fact_row (fact_at o row)) else None

-- the cells of an output are those of a view's terms
pub record IsOutputOf (q : Query) (o : Output) : Type 0 where
  pub label : o.label ≡ cell_for q.decls (plan_header q) (term_of q.label)
  pub keys : o.keys.items ≡ map (cell_for q.decls (plan_header q)) q.keys
  pub column : o.column ≡ option_map (λ p. cell_for q.decls (plan_header q) (term_of p)) q.column
  pub value : o.value ≡ option_map (cell_for q.decls (plan_header q)) q.value
  pub filter : option_map condition_in o.filter ≡ option_map (placed (cell_for q.decls (plan_header q))) q.condition

pub record IsFormOf (q : Query) (f : Form) : Type 0 where
  pub bases : map base_value f.bases.items ≡ bases_from q [] 0 q.decls
  pub output : IsOutputOf q f.output

-- the fact of a plan's row under a view, as a row, where it counts
abbrev pub counted_fact : Query → Row → Option Row
counted_fact q row =
    let r = read q (zip (plan_header q) row) in
    if counts q r then Some (fact_row (fact_of q r)) else None
