use Rattle.std.proofs.Common.{◌≡◌, drop, nat_lt}
use Rattle.std.specs.Prelude.{count_by}
use Rattle.ss_text.specs.Texts.{row_eq}
use Rattle.schema_model.proofs.listed.has_more.Given as goal

abbrev pub invariant-loop-kept : goal.invariant-loop-kept
invariant-loop-kept l = nat_lt l.left (count_by (row_eq l.row) (drop l.kept-index l.rows)) ≡ nat_lt l.count (count_by (row_eq l.row) l.rows)
