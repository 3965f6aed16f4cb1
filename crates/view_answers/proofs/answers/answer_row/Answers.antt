use Rattle.opened_view.proofs.AnswerLemmas.{words_does, changes_does}
use Rattle.view_answers.proofs.answers.answer_row.Goals as goal

pub returns-in-Some-clause-does : goal.returns-in-Some-clause-does
returns-in-Some-clause-does g c = words_does _ _ _ c.args.view.now c.args.row.now c.word_of.result c.in-Some.word c.word_of.ensures c.in-Some.is c.answer_word.ensures.does

pub returns-in-None-clause-does : goal.returns-in-None-clause-does
returns-in-None-clause-does g c = changes_does _ _ _ c.args.view.now c.args.row.now c.word_of.result c.word_of.ensures c.in-None.is (c.answer_change_line.ensures.does _)
