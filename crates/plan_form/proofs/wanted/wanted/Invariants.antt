use Rattle.std.proofs.Common.{◌≡◌, take}
use Rattle.std.specs.List.{filter_map}
use Rattle.plan_law.specs.Columns.{wanted_in}
use Rattle.plan_form.proofs.wanted.wanted.Given as goal

abbrev pub invariant-loop-term : goal.invariant-loop-term
invariant-loop-term l = l.names.items ≡ filter_map (wanted_in l.declaration) (take l.term-index l.terms)
