use Rattle.std.proofs.Common.{◌≡◌, drop}
use Rattle.std.specs.List.{filter_map, slice_get}
use Rattle.plan_law.specs.Columns.{folded_in}
use Rattle.plan_form.proofs.wanted.fold_of.Given as goal

abbrev pub invariant-loop-term : goal.invariant-loop-term
invariant-loop-term l = slice_get (filter_map (folded_in l.declaration) l.terms) 0 ≡ slice_get (filter_map (folded_in l.declaration) (drop l.term-index l.terms)) 0
