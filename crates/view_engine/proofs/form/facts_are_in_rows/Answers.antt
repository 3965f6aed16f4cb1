use Rattle.view_meaning.specs.Meaning.{facts, shape_of}
use Rattle.view_engine.proofs.FactsForm.{have_form, read_back, are_wide}
use Rattle.view_engine.proofs.form.facts_are_in_rows.Goals as goal

pub returns : goal.returns
returns c = record {
  back = λ c q profile. read_back (shape_of q) (facts c q) (have_form c q profile);
  wide = λ c q profile. are_wide (shape_of q) (facts c q) (have_form c q profile);
}
