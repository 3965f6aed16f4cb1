use Rattle.std.proofs.Common.{◌∙◌}
use Rattle.ss_text.proofs.KeyLemmas.{text_order, searched}
use Rattle.flow_law.proofs.TableLemmas.{own_keys}
use Rattle.opened_view.proofs.view.OpenView.had_table.Goals as goal

pub returns : goal.returns
returns c =
    let facts = c.binary_search.ensures in
    let names = c.self.inside.synced.items in
    let answer = searched text_order (λ x. x) c.args.label.now names c.binary_search.result (own_keys names c.self.invariant.synced) (rw c.deref.ensures.value at facts.bound) (rw c.deref.ensures.value at facts.position) in
    rw (← c.self.view_is) (c.is_ok.ensures.value ∙ answer.there)
