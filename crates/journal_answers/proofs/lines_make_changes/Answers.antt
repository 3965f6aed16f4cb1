use Rattle.journal_answers.proofs.MadeLemmas.{line_grows}
use Rattle.journal_answers.proofs.lines_make_changes.Goals as goal

pub returns : goal.returns
returns c = record { made = line_grows }
