use Rattle.std.proofs.Common.{◌≡◌, Some}
use Rattle.std.proofs.lemmas.Result.{err_from_is_err_and, IfOk-weaker}
use Rattle.outside.specs.Tree.{Tree}
use Rattle.outside.specs.Effects.{world_of}
use Rattle.stack_answers.specs.Stack.{queries_of}
use Rattle.stack_answers.specs.Held.{held_in, stack_state}
use Rattle.stack_answers.specs.Folders.{planned_in, label_count}
use Rattle.stack_answers.specs.Opening.{folders_opened, opening_sum}
use Rattle.stack_answers.proofs.OpeningLemmas.{none_done, filled_does, filled_counts, no_read_first, blamed_then}
use Rattle.stack_answers.proofs.open_stack.OpenStack.write_tables.Goals as goal

pub returns-in_err-plans-clause-does : goal.returns-in_err-plans-clause-does
returns-in_err-plans-clause-does g c = λ o t told.
    let p = err_from_is_err_and c.from_residual.result c.from_residual.ensures.1 in
    none_done (folders_opened t c.args.self.now.catalogue (queries_of c.args.self.now)) (world_of (g.F.Folders.state c.args.store.now) o) (world_of (g.F.Folders.state c.plan_folders.new.store) o) c.from_residual.result p.0 p.1 (c.in_err-plans.ensures.does o)

pub returns-clause-does : goal.returns-clause-does
returns-clause-does g c = λ o t told.
    let inside = c.self.inside in
    rw (← c.self.view_is) (filled_does t inside.levels c.all-levels.result.now c.in_ok-plans.plans.items c.deref.result.now _ told c.all-levels.ensures.levels c.in_ok-plans.ensures.planned c.deref.ensures.value c.all-levels.ensures.tables
    (held_in inside.draft) inside.some_refused inside.broken _ _ _ c.write_tables.result (c.in_ok-plans.ensures.does o) (c.write_tables.ensures.performs.does o))

pub returns-clause-count : goal.returns-clause-count
returns-clause-count g c =
    let inside = c.self.inside in
    let own = stack_state inside.levels (held_in inside.draft) inside.some_refused inside.broken in
    rw (← c.self.view_is) (IfOk-weaker c.write_tables.result (λ n. n ≡ label_count (planned_in c.deref.result.now)) (λ n. (t : Tree) → (g.F.Folders.state c.args.store.now).tree ≡ Some t → n ≡ opening_sum t own.catalogue (queries_of own))
    (λ n e t told. filled_counts t inside.levels c.all-levels.result.now c.in_ok-plans.plans.items c.deref.result.now _ told c.all-levels.ensures.levels c.in_ok-plans.ensures.planned c.deref.ensures.value c.all-levels.ensures.tables
    (held_in inside.draft) inside.some_refused inside.broken n e) c.write_tables.ensures.count)

pub returns-clause-read_first : goal.returns-clause-read_first
returns-clause-read_first g c = no_read_first c.write_tables.result c.write_tables.ensures.performs.no_read

pub returns-clause-blames : goal.returns-clause-blames
returns-clause-blames g c = blamed_then _ _ _ _ c.write_tables.result c.in_ok-plans.ensures.blames c.write_tables.ensures.performs.blames
