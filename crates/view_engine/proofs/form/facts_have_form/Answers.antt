use Rattle.view_engine.proofs.FactsForm.{have_form}
use Rattle.view_engine.proofs.form.facts_have_form.Goals as goal

pub returns : goal.returns
returns c = record { form = have_form }
