use Rattle.std.proofs.Common.{◌≡◌, map, take}
use Rattle.view_meaning.specs.Elements.{A_text}
use Rattle.valuation_meaning.proofs.ranges.attributes.Given as goal

abbrev pub invariant-loop-place : goal.invariant-loop-place
invariant-loop-place l = l.elements.items ≡ map A_text (take l.place l.relation.attributes)
