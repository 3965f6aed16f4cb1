use Rattle.std.proofs.Common.{◌≡◌, ◌<◌, ◌+◌, ◌-◌, ◌∙◌, ◌≢◌, sym, subst, ap, length, arith, List, ◌∷◌, [], ◌++◌, eq-eqb}
use Rattle.std.specs.List.Sorted.{IsStrictlySortedBy}
use Rattle.std.specs.Ordering.{is_lt}
use Rattle.std.proofs.lemmas.List.{length-map}
use Rattle.ss_text.specs.Texts.{Row, row_cmp}
use Rattle.ss_text.proofs.KeyLemmas.{row_order}
use Rattle.flow_law.specs.Tables.{row_keys}
use Rattle.view_folder.proofs.RecordLemmas.{one_ascends, behind_last, last_behind, key_at, no_keys, lt_is}
use Rattle.view_folder.proofs.records.is_behind.Goals as goal

pub returns-then-count-eq0 : goal.returns-then-count-eq0
returns-then-count-eq0 c =
    let none : length c.args.table.now.rows ≡ 0 = sym c.count-count.ensures ∙ c.if-count-eq0.true in
    let sorted = subst (λ (ks : List Row). IsStrictlySortedBy row_cmp (ks ++ c.args.key.now ∷ [])) (sym (no_keys c.args.table.now none)) (one_ascends row_order.total c.args.key.now) in
    (λ yes. sorted, λ s. eq-eqb c.count-count.result 0 c.if-count-eq0.true)

pub returns-else-count-eq0 : goal.returns-else-count-eq0
returns-else-count-eq0 c =
    let keys = row_keys c.args.table.now in
    let last = c.key.result.now in
    let i = c.count-count.result - 1 in
    let some : c.count-count.result ≢ 0 = λ e. c.if-count-eq0.false e in
    let few : i < length c.args.table.now.rows = omega (arith, some, c.count-count.ensures) in
    let many : length keys ≡ i + 1 = length-map c.args.table.now.rows _ ∙ omega (arith, some, c.count-count.ensures) in
    let is = key_at c.args.table.now i last few c.key.ensures in (
      λ yes. behind_last row_order.total keys last c.args.key.now i many is c.requires (lt_is row_cmp (row_cmp last c.args.key.now) (sym c.is_less.ensures ∙ yes)),
      λ s. c.is_less.ensures ∙ ap is_lt (last_behind row_order.total keys last c.args.key.now i many is s),
    )
