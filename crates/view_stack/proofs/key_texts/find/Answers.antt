use Rattle.ss_text.proofs.KeyLemmas.{text_order, searched}
use Rattle.flow_law.proofs.TableLemmas.{own_keys}
use Rattle.view_stack.proofs.key_texts.find.Goals as goal

pub returns : goal.returns
returns c =
    let facts = c.binary_search.ensures in
    let answer = searched text_order (λ x. x) c.args.column.now c.args.columns.now c.binary_search.result (own_keys c.args.columns.now c.requires) facts.bound facts.position in
    record { found = answer.found; absent = answer.absent }
