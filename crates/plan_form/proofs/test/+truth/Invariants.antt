use Rattle.std.proofs.Common.{◌≡◌, Bool, ◌||◌, ◌&&◌, drop, map}
use Rattle.std.specs.Prelude.{option_map}
use Rattle.view_def.specs.Conditions.{conditions_of}
use Rattle.view_meaning.specs.Truth.{truth_of_some, truth_of_each}
use Rattle.plan_form.specs.Tests.{at_row, condition_in}
use Rattle.plan_form.proofs.test.+truth.Given as goal

-- what is left decides, where nothing has decided yet
abbrev pub invariant-truth_of_some-loop-member : goal.invariant-truth_of_some-loop-member
invariant-truth_of_some-loop-member l =
    truth_of_some (at_row l.row) (conditions_of (map condition_in l.members)) ≡ option_map (λ (b : Bool). l.found || b) (truth_of_some (at_row l.row) (conditions_of (map condition_in (drop l.member-index l.members))))

abbrev pub invariant-truth_of_each-loop-member : goal.invariant-truth_of_each-loop-member
invariant-truth_of_each-loop-member l =
    truth_of_each (at_row l.row) (conditions_of (map condition_in l.members)) ≡ option_map (λ (b : Bool). l.kept && b) (truth_of_each (at_row l.row) (conditions_of (map condition_in (drop l.member-index l.members))))
