use Rattle.std.proofs.Common.{◌<◌, ◌∙◌, ap, length, arith, length-set}
use Rattle.std.proofs.lemmas.List.Elements.{AllWithin-more_set}
use Rattle.flow_law.specs.KeyedRows.{row_values, HasRoom}
use Rattle.flow_law.proofs.RowLemmas.{seen_as_before, all_written}
use Rattle.flow_law.proofs.keyed_row.make_room.Goals as goal

pub returns-in_err-make_room-clause-same : goal.returns-in_err-make_room-clause-same
returns-in_err-make_room-clause-same c =
    let lt : c.loop-row.row-index < length c.loop-row.row-items = omega arith in
    ap row_values (all_written c.args.rows.now.len _ c.args.rows.now.items (omega (arith, length-set c.loop-row.row-items c.loop-row.row-index c.make_room.new.self)))
    ∙ seen_as_before c.loop-row.row-items c.loop-row.row-index c.row-item.result c.make_room.new.self lt c.make_room.ensures.same ∙ c.loop-row.invariant.same

pub loop-row-preserved : goal.loop-row-preserved
loop-row-preserved c =
    let lt : c.loop-row.row-index < length c.loop-row.row-items = omega arith in
    record {
      same = seen_as_before c.loop-row.row-items c.loop-row.row-index c.row-item.result c.make_room.new.self lt c.make_room.ensures.same ∙ c.loop-row.invariant.same;
      room = AllWithin-more_set c.loop-row.row-items c.loop-row.row-index c.make_room.new.self lt HasRoom c.loop-row.invariant.room c.in_ok-make_room.ensures.room;
    }
