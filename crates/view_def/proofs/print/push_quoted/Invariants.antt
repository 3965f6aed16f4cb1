use Rattle.std.proofs.Common.{◌≡◌, ◌++◌, ◌==◌, [], ◌∷◌, take, if◌then◌else◌}
use Rattle.std.specs.List.{flat_map}
use Rattle.view_def.proofs.print.push_quoted.Given as goal

abbrev pub invariant-loop-b : goal.invariant-loop-b
invariant-loop-b l = l.out.items ≡ l.initial.out.items ++ flat_map (λ b. if b == l.quote then b ∷ b ∷ [] else b ∷ []) (take l.b-index l.text)
