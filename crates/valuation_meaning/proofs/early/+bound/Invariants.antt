use Rattle.std.proofs.Common.{◌≡◌, drop, map}
use Rattle.view_def.specs.Conditions.{condition_of, conditions_of}
use Rattle.view_def.specs.Terms.{terms_of_each}
use Rattle.view_meaning.specs.Early.{are_bound}
use Rattle.valuation_meaning.proofs.early.+bound.Given as goal

abbrev pub invariant-are_bound_conditions-loop-member : goal.invariant-are_bound_conditions-loop-member
invariant-are_bound_conditions-loop-member l =
    are_bound l.depth (terms_of_each (conditions_of (map condition_of l.members))) ≡ are_bound l.depth (terms_of_each (conditions_of (map condition_of (drop l.member-index l.members))))
