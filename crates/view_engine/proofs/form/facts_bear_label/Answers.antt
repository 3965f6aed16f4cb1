use Rattle.view_engine.proofs.FactsForm.{legal_label, bear_label}
use Rattle.view_engine.proofs.form.facts_bear_label.Goals as goal

pub returns : goal.returns
returns c = record { legal = λ q label profile e. legal_label q.decls q.label label profile.label e; bear = bear_label }
