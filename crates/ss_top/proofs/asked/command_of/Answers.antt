use Rattle.std.proofs.Common.{◌∙◌, sym, ap, arith}
use Rattle.std.specs.Prelude.{codes}
use Rattle.ss_text.specs.Texts.{Text, text_eq}
use Rattle.ss_top.proofs.WordLemmas.{two_words, three_words}
use Rattle.ss_top.proofs.asked.command_of.Goals as goal

pub returns-in-len2 : goal.returns-in-len2
returns-in-len2 c = c.named.ensures ∙ sym (two_words c.args.words.now c.word-item.result c.name-item.result (omega arith) c.word-item.is c.name-item.is (sym c.table_label_legal.ensures ∙ c.if-table_label_legal.true))

pub returns-in-len3 : goal.returns-in-len3
returns-in-len3 c =
    c.counted.ensures
    ∙ sym (three_words c.args.words.now c.word-item-then-words-lt4.result c.changes-item.result c.seed-item.result (omega arith) c.word-item-then-words-lt4.is c.changes-item.is c.seed-item.is
    (ap (λ (x : Text). text_eq x (codes "load")) (sym c.as_slice.ensures) ∙ ap (text_eq c.as_slice.result.now) (sym c.as_slice-then-words-lt4.ensures) ∙ sym c.eq.ensures ∙ c.if-eq.true))
