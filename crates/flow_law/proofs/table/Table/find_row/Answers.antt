use Rattle.std.proofs.Common.{rules}
use Rattle.std.proofs.lemmas.Fn.{always_returns_same}
use Rattle.ss_text.specs.Texts.{row_cmp}
use Rattle.ss_text.proofs.KeyLemmas.{row_order, searched_seen}
use Rattle.flow_law.specs.Tables.{key_of}
use Rattle.flow_law.specs.KeyedRows.{row_value}
use Rattle.flow_law.specs.declared.keyed_row.KeyedRow.{KeyedRow}
use Rattle.flow_law.proofs.table.Table.find_row.Goals as goal

pub returns : goal.returns
returns c =
    let facts = c.binary_search_by.ensures in
    let by_key = facts.position (λ (r : KeyedRow). row_cmp r.key c.args.key.now) (always_returns_same _ _ _ (λ a r g called. search rules)) in
    rw (← c.self.view_is) (searched_seen row_order key_of row_value c.args.key.now c.self.inside.rows.items c.binary_search_by.result c.self.invariant.keys (rw c.deref.ensures.value at facts.bound) (rw c.deref.ensures.value at by_key))
