use Rattle.std.proofs.Common.{rules}
use Rattle.std.proofs.lemmas.Fn.{always_returns_same}
use Rattle.ss_text.specs.Texts.{Text, text_cmp}
use Rattle.ss_text.proofs.KeyLemmas.{text_order, searched}
use Rattle.flow_law.specs.Tables.{TableValue, label_in}
use Rattle.flow_law.proofs.tables.Tables.search.Goals as goal

pub returns : goal.returns
returns c =
    let facts = c.binary_search_by.ensures in
    let by_label = facts.position (λ (p : Text × TableValue). text_cmp p.0 c.args.label.now) (always_returns_same _ _ _ (λ a r g called. search rules)) in
    rw (← c.self.view_is) (searched text_order label_in c.args.label.now c.self.inside.tables.items c.binary_search_by.result c.self.invariant.labels (rw c.deref.ensures.value at facts.bound) (rw c.deref.ensures.value at by_label))
