use Rattle.std.proofs.Common.{◌≡◌, map}
use Rattle.std.proofs.lemmas.Result.{IfOk-weaker}
use Rattle.stack_levels.specs.States.{level_value, level_tables}
use Rattle.stack_answers.specs.Stack.{stack_tables}
use Rattle.stack_answers.specs.Held.{held_in, stack_state}
use Rattle.stack_answers.specs.Answers.{sync_count}
use Rattle.stack_answers.proofs.StackLemmas.{synced_counts}
use Rattle.stack_answers.proofs.open_stack.OpenStack.sync_count.Goals as goal

pub returns : goal.returns
returns c =
    let inside = c.self.inside in
    let own = stack_state inside.levels (held_in inside.draft) inside.some_refused inside.broken in
    rw (← c.self.view_is) (IfOk-weaker c.file_count.result (λ n. n ≡ sync_count (map level_value c.all.result.now) (map level_tables c.all.result.now)) (λ n. n ≡ sync_count own.levels (stack_tables own))
    (λ n e. synced_counts inside.levels (held_in inside.draft) inside.some_refused inside.broken c.all.result.now n c.all.ensures.levels c.all.ensures.tables e) c.file_count.ensures)
