use Rattle.course.proofs.RunLemmas.{by_cause}
use Rattle.ss_top.specs.Commands.{asked_of, names_of}
use Rattle.ss_top.proofs.DefinedLemmas.{all_defined}
use Rattle.ss_top.proofs.WordLemmas.{asked_views}
use Rattle.ss_top.proofs.TopLemmas.{not_held_up, does_course, is_complete, checks, shows, maintains, stops_at_sync, stacks, stack_stops_at_sync, feeds, feed_stops_at_sync, verifies, prints_difference, applies, applies_nothing, loads, keeps_all, answers_some, keeps_others, leaves_between, takes_little, takes_enough, alone_by, takes_steps}
use Rattle.ss_top.proofs.top.run.Goals as goal

pub run_command-ending-requires : goal.run_command-ending-requires
run_command-ending-requires g c = rw c.command_of-command.ensures (asked_views c.args.words.now)

pub returns-clause-defined : goal.returns-clause-defined
returns-clause-defined g c = λ t. all_defined (names_of (asked_of c.args.words.now)) t

pub returns-clause-did : goal.returns-clause-did
returns-clause-did g c = rw c.status_of_ending.ensures (does_course c.args.words.now _ _ c.run_command-ending.result _ _ _ _ (rw c.command_of-command.ensures at c.run_command-ending.ensures.ran) c.run_command-ending.ensures.blames c.run_command-ending.ensures.idle)

pub returns-clause-complete : goal.returns-clause-complete
returns-clause-complete g c = rw c.status_of_ending.ensures (is_complete c.args.words.now _ _ c.run_command-ending.result _ _ _ _ (rw c.command_of-command.ensures at c.run_command-ending.ensures.ran) c.run_command-ending.ensures.blames c.run_command-ending.ensures.idle (rw c.command_of-command.ensures at c.run_command-ending.ensures.can))

pub returns-clause-cause : goal.returns-clause-cause
returns-clause-cause g c = rw c.status_of_ending.ensures (by_cause _ _ _ _ _ c.run_command-ending.ensures.blames (not_held_up (asked_of c.args.words.now) _ (rw c.command_of-command.ensures at c.run_command-ending.ensures.can)))

pub returns-clause-can : goal.returns-clause-can
returns-clause-can g c = rw c.status_of_ending.ensures (rw c.command_of-command.ensures at c.run_command-ending.ensures.can)

pub returns-clause-checked : goal.returns-clause-checked
returns-clause-checked g c = rw c.status_of_ending.ensures (checks c.args.words.now _ _ c.run_command-ending.result _ _ _ _ (rw c.command_of-command.ensures at c.run_command-ending.ensures.ran) c.run_command-ending.ensures.blames c.run_command-ending.ensures.idle)

pub returns-clause-shown : goal.returns-clause-shown
returns-clause-shown g c = rw c.status_of_ending.ensures (shows c.args.words.now _ _ c.run_command-ending.result _ _ _ _ (rw c.command_of-command.ensures at c.run_command-ending.ensures.ran) c.run_command-ending.ensures.blames c.run_command-ending.ensures.idle)

pub returns-clause-maintained : goal.returns-clause-maintained
returns-clause-maintained g c = rw c.status_of_ending.ensures (maintains c.args.words.now _ _ c.run_command-ending.result _ _ _ _ (rw c.command_of-command.ensures at c.run_command-ending.ensures.ran) c.run_command-ending.ensures.blames c.run_command-ending.ensures.idle (λ t told. g.met.F.Folders.whole _ t told))

pub returns-clause-cut_off : goal.returns-clause-cut_off
returns-clause-cut_off g c = rw c.status_of_ending.ensures (stops_at_sync c.args.words.now _ _ c.run_command-ending.result _ _ _ _ (rw c.command_of-command.ensures at c.run_command-ending.ensures.ran) c.run_command-ending.ensures.blames c.run_command-ending.ensures.idle (λ t told. g.met.F.Folders.whole _ t told))

pub returns-clause-stacked : goal.returns-clause-stacked
returns-clause-stacked g c = rw c.status_of_ending.ensures (stacks c.args.words.now _ _ c.run_command-ending.result _ _ _ _ (rw c.command_of-command.ensures at c.run_command-ending.ensures.ran) c.run_command-ending.ensures.blames c.run_command-ending.ensures.idle (λ t told. g.met.F.Folders.whole _ t told))

pub returns-clause-stack_cut_off : goal.returns-clause-stack_cut_off
returns-clause-stack_cut_off g c = rw c.status_of_ending.ensures (stack_stops_at_sync c.args.words.now _ _ c.run_command-ending.result _ _ _ _ (rw c.command_of-command.ensures at c.run_command-ending.ensures.ran) c.run_command-ending.ensures.blames c.run_command-ending.ensures.idle (λ t told. g.met.F.Folders.whole _ t told))

pub returns-clause-fed : goal.returns-clause-fed
returns-clause-fed g c = rw c.status_of_ending.ensures (feeds c.args.words.now _ _ c.run_command-ending.result _ _ _ _ (rw c.command_of-command.ensures at c.run_command-ending.ensures.ran) c.run_command-ending.ensures.blames c.run_command-ending.ensures.idle (λ t told. g.met.F.Folders.whole _ t told))

pub returns-clause-fed_cut_off : goal.returns-clause-fed_cut_off
returns-clause-fed_cut_off g c = rw c.status_of_ending.ensures (feed_stops_at_sync c.args.words.now _ _ c.run_command-ending.result _ _ _ _ (rw c.command_of-command.ensures at c.run_command-ending.ensures.ran) c.run_command-ending.ensures.blames c.run_command-ending.ensures.idle (λ t told. g.met.F.Folders.whole _ t told))

pub returns-clause-verified : goal.returns-clause-verified
returns-clause-verified g c = rw c.status_of_ending.ensures (verifies c.args.words.now _ _ c.run_command-ending.result _ _ _ _ (rw c.command_of-command.ensures at c.run_command-ending.ensures.ran) c.run_command-ending.ensures.blames c.run_command-ending.ensures.idle)

pub returns-clause-differs : goal.returns-clause-differs
returns-clause-differs g c = rw c.status_of_ending.ensures (prints_difference c.args.words.now _ _ c.run_command-ending.result _ _ _ _ (rw c.command_of-command.ensures at c.run_command-ending.ensures.ran) c.run_command-ending.ensures.blames c.run_command-ending.ensures.idle)

pub returns-clause-applied : goal.returns-clause-applied
returns-clause-applied g c = rw c.status_of_ending.ensures (applies c.args.words.now _ _ c.run_command-ending.result _ _ _ _ (rw c.command_of-command.ensures at c.run_command-ending.ensures.ran) c.run_command-ending.ensures.blames c.run_command-ending.ensures.idle)

pub returns-clause-unapplied : goal.returns-clause-unapplied
returns-clause-unapplied g c = rw c.status_of_ending.ensures (applies_nothing c.args.words.now _ _ c.run_command-ending.result _ _ _ _ (rw c.command_of-command.ensures at c.run_command-ending.ensures.ran) c.run_command-ending.ensures.blames c.run_command-ending.ensures.idle)

pub returns-clause-loaded : goal.returns-clause-loaded
returns-clause-loaded g c = rw c.status_of_ending.ensures (loads c.args.words.now _ _ c.run_command-ending.result _ _ _ _ (rw c.command_of-command.ensures at c.run_command-ending.ensures.ran) c.run_command-ending.ensures.blames c.run_command-ending.ensures.idle)

pub returns-clause-some : goal.returns-clause-some
returns-clause-some g c = rw c.status_of_ending.ensures (answers_some c.args.words.now _ _ c.run_command-ending.result (rw c.command_of-command.ensures at c.run_command-ending.ensures.some))

pub returns-clause-unchanged : goal.returns-clause-unchanged
returns-clause-unchanged g c = rw c.status_of_ending.ensures (keeps_all c.args.words.now _ _ c.run_command-ending.result (rw c.command_of-command.ensures at c.run_command-ending.ensures.some))

pub returns-clause-others : goal.returns-clause-others
returns-clause-others g c = keeps_others c.args.words.now _ _ c.run_command-ending.result _ _ (rw c.command_of-command.ensures at c.run_command-ending.ensures.some) (rw c.command_of-command.ensures at c.run_command-ending.ensures.ran)

pub returns-clause-between : goal.returns-clause-between
returns-clause-between g c = leaves_between c.args.words.now _ _ c.run_command-ending.result _ _ (rw c.command_of-command.ensures at c.run_command-ending.ensures.some) (rw c.command_of-command.ensures at c.run_command-ending.ensures.ran)

pub returns-clause-took : goal.returns-clause-took
returns-clause-took g c = rw c.status_of_ending.ensures (takes_little c.args.words.now _ c.run_command-ending.result _ _ _ _ (rw c.command_of-command.ensures at c.run_command-ending.ensures.took))

pub returns-clause-enough : goal.returns-clause-enough
returns-clause-enough g c = rw c.status_of_ending.ensures (takes_enough c.args.words.now _ c.run_command-ending.result _ _ _ (rw c.command_of-command.ensures at c.run_command-ending.ensures.enough))

pub returns-clause-alone : goal.returns-clause-alone
returns-clause-alone g c = alone_by c.args.words.now _ _ (rw c.command_of-command.ensures at c.run_command-ending.ensures.alone)

pub returns-clause-within : goal.returns-clause-within
returns-clause-within g c = takes_steps c.args.words.now _ _ _ _ (rw c.command_of-command.ensures at c.run_command-ending.ensures.within)
