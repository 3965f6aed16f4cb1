use Rattle.std.proofs.Common.{◌≡◌, ◌++◌, map, length, Bor}
use Rattle.ss_text.specs.Texts.{Row}
use Rattle.schema_model.specs.Placed.{placed_rows}
use Rattle.schema_model.proofs.Walks.{rows_from, IsThere}
use Rattle.schema_model.proofs.relation.Relation.rows.Given as goal

abbrev pub invariant-loop-next : goal.invariant-loop-next
invariant-loop-next l = record {
  walked : map (λ (r : Bor Row). r.now) l.rows.items ++ placed_rows (rows_from l.next l.self.placed) ≡ placed_rows l.self.placed;
  there : IsThere l.next l.self.placed;
}

abbrev pub decreases-loop-next : goal.decreases-loop-next
decreases-loop-next l = length (rows_from l.next l.self.placed)
