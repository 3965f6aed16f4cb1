use Rattle.opened_view.proofs.AnswerLemmas.{unspelled_does}
use Rattle.view_answers.proofs.answers.answer_line.Goals as goal

pub returns-in_ok-fields-in-Err-BadEscape-clause-does : goal.returns-in_ok-fields-in-Err-BadEscape-clause-does
returns-in_ok-fields-in-Err-BadEscape-clause-does g c =
    unspelled_does _ _ _ c.args.view.now c.args.line.now c.in-Err-BadEscape.field-0 c.in-Err-BadEscape.at c.in_ok-fields-in-Err-BadEscape.fields
    c.in-Err-BadEscape.ensures.reads c.in-Err-BadEscape.field-0-is c.in_ok-fields-in-Err-BadEscape.ensures (c.refuse.ensures.does _)
