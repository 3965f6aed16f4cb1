use Rattle.ss_text.proofs.KeyLemmas.{text_order, searched}
use Rattle.flow_law.proofs.TableLemmas.{own_keys}
use Rattle.kept_tables.proofs.table.KeptTable.find_column.Goals as goal

pub returns : goal.returns
returns c =
    let facts = c.binary_search.ensures in
    let answer = searched text_order (λ x. x) c.args.column.now c.self.inside.columns.items c.binary_search.result (own_keys c.self.inside.columns.items c.self.invariant.table.columns) (rw c.deref.ensures.value at facts.bound) (rw c.deref.ensures.value at facts.position) in
    rw (← c.self.view_is) (record { there = answer.there; found = answer.found; absent = answer.absent })
