use Rattle.std.proofs.Common.{subst}
use Rattle.ss_text.specs.Texts.{Row}
use Rattle.operator_law.specs.Bags.{MovesBag}
use Rattle.fold_op.specs.Sheets.{sheet_after}
use Rattle.fold_op.specs.Flat.{pick_value}
use Rattle.unite_op.specs.NamedThings.{rows_behind, moves_behind}
use Rattle.unite_op.proofs.UniteLemmas.{moves_rows_behind}
use Rattle.schema_model.specs.States.{plain_relation}
use Rattle.schema_delta.specs.Flat.{sheet_of}
use Rattle.schema_delta.proofs.change.values_change.Goals as goal

pub returns-in_ok-delta-in-Fixed-clause-moved : goal.returns-in_ok-delta-in-Fixed-clause-moved
returns-in_ok-delta-in-Fixed-clause-moved g c =
    let x = sheet_of (plain_relation c.args.relation.now) in
    let y = sheet_after c.args.change.now x in
    let names = c.in_ok-names-in-Fixed.names in
    let cells = c.in_ok-cells-in-Fixed.cells in
    let moved : MovesBag (rows_behind names (pick_value names x)) (moves_behind names cells) (rows_behind names (pick_value names y)) =
    moves_rows_behind names (pick_value names x) (pick_value names y) cells c.in_ok-cells-in-Fixed.ensures.moved in
    rw (c.in-Fixed.is, c.in_ok-delta-in-Fixed.ensures)
    (subst (λ (n : Row). MovesBag (rows_behind n (pick_value n x)) (moves_behind names cells) (rows_behind n (pick_value n y))) c.in_ok-names-in-Fixed.ensures moved)
