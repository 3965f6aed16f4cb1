use Rattle.std.proofs.Common.{◌≡◌, ◌≢◌, length, ap, arith}
use Rattle.ss_text.specs.Texts.{Row}
use Rattle.opened_view.proofs.AnswerLemmas.{more_words_does}
use Rattle.view_answers.proofs.group.answer_word.Goals as goal

pub returns-clause-does : goal.returns-clause-does
returns-clause-does g c =
    let long : length c.cells-got.result.now ≡ length c.args.row.now = ap (λ (row : Row). length row) c.cells-got.ensures in
    let apart : length c.args.row.now ≢ 1 = λ e. absurd (omega (arith, e, long)) in
    more_words_does _ _ _ c.args.view.now c.args.row.now c.in_ok-fields.fields c.args.word apart (rw long at c.in_ok-fields.ensures) (c.refuse.ensures.does _)
