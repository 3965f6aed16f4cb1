use Rattle.std.proofs.Common.{◌≡◌, map, take}
use Rattle.plan_translate.specs.Parts.{fresh_join}
use Rattle.plan_translate.proofs.parts.joins_of.Given as goal

abbrev pub invariant-loop-base : goal.invariant-loop-base
invariant-loop-base l = l.joins.items ≡ map fresh_join (take l.base-index l.further)
