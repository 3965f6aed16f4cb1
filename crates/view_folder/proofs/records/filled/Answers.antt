use Rattle.std.proofs.Common.{◌∙◌, ◌+◌, ◌++◌, ◌∷◌, [], List, sym, ap, subst, map, take, drop}
use Rattle.std.specs.List.Sorted.{IsStrictlySortedBy}
use Rattle.std.proofs.lemmas.Bool.{false≢true}
use Rattle.std.proofs.lemmas.List.{take_all}
use Rattle.ss_text.specs.Texts.{Row, row_cmp}
use Rattle.flow_law.specs.Tables.{row_keys}
use Rattle.view_folder.specs.Records.{ascends, constant_part}
use Rattle.view_folder.proofs.RecordLemmas.{not_whole, front_keys, keys_split, strict_ascends}
use Rattle.view_folder.proofs.records.filled.Goals as goal

pub returns-then-not-is_behind-clause-there : goal.returns-then-not-is_behind-clause-there
returns-then-not-is_behind-clause-there c =
    let shape = c.args.shape.now in
    let rows = c.args.rows.now in
    let i = c.loop-row.row-index in
    let row = c.row-item.result in
    let front = front_keys shape rows i c.loop-row.table c.args.columns.items c.loop-row.invariant.table in
    let here = ap (λ (ks : List Row). ks ++ c.in_ok-key.key ∷ []) front ∙ ap (λ (k : Row). map (constant_part shape) (take i rows) ++ k ∷ []) c.in_ok-key.ensures in
    sym (not_whole shape rows (map (constant_part shape) (take i rows)) (constant_part shape row) (map (constant_part shape) (drop (i + 1) rows)) (keys_split shape rows i row c.loop-row-test.true c.row-item.is)
    (λ s. false≢true (sym c.if-not-is_behind.true ∙ c.is_behind.ensures.1 (subst (IsStrictlySortedBy row_cmp) (sym here) s))))

pub returns-clause-there : goal.returns-clause-there
returns-clause-there c =
    let shape = c.args.shape.now in
    let rows = c.args.rows.now in
    let all = take_all c.loop-row.row-index rows c.loop-row-test.false in
    let keys = front_keys shape rows c.loop-row.row-index c.loop-row.table c.args.columns.items c.loop-row.invariant.table ∙ ap (map (constant_part shape)) all in
    sym (ap (ascends row_cmp) (sym keys) ∙ strict_ascends row_cmp (row_keys c.loop-row.table) c.loop-row.invariant.ascend)
