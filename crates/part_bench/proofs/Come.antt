-- Rows that all come stand behind those that were there.
use Rattle.std.proofs.Common.{List, ◌++◌, true, arith}
use Rattle.ss_text.specs.Texts.{Row}
use Rattle.operator_law.specs.Bags.{MovesBag, all_signed}
use Rattle.operator_law.proofs.Weights.{weigh-append}
use Rattle.operator_law.proofs.SignedRows.{come-up, go-up}

pub come_behind : (xs ys : List Row) → MovesBag xs (all_signed true ys) (xs ++ ys)
come_behind xs ys f = omega (arith, come-up f ys, go-up f ys, weigh-append f xs ys)
