use Rattle.std.proofs.Common.{◌≡◌, Some, sym, ap, ◌∙◌}
use Rattle.std.specs.Option.{option_copied}
use Rattle.journal_law.proofs.KeptLemmas.{entries_held}
use Rattle.ss_top.specs.Commands.{journal_of}
use Rattle.ss_top.proofs.JournalLemmas.{has_definition, keeps_all, keeps_others, leaves_between, does_course, journals, stops_at_sync, stops_at_fault, stops_where_full, is_complete, reopens, takes_little, takes_enough}
use Rattle.ss_top.proofs.journals.run_with_disk.Given as given
use Rattle.ss_top.proofs.journals.run_with_disk.Goals as goal

-- the words name a view
named : (g : given.Over) (c : goal.After-status_of_ending g) → journal_of c.args.words.now ≡ Some c.in-Some.name.now
named g c = sym c.journal_name.ensures ∙ ap option_copied c.in-Some.is

pub returns-in-Some-clause-defined : goal.returns-in-Some-clause-defined
returns-in-Some-clause-defined g c = has_definition c.args.words.now

pub returns-in-Some-clause-did : goal.returns-in-Some-clause-did
returns-in-Some-clause-did g c = rw c.status_of_ending.ensures (does_course c.args.words.now _ (named g c) _ _ _ c.journal-ending.result _ _ _ _ c.journal-ending.ensures.ran c.journal-ending.ensures.blames c.journal-ending.ensures.idle)

pub returns-in-Some-clause-complete : goal.returns-in-Some-clause-complete
returns-in-Some-clause-complete g c = rw c.status_of_ending.ensures (is_complete c.args.words.now _ (named g c) _ _ _ c.journal-ending.result _ _ _ _ c.journal-ending.ensures.ran c.journal-ending.ensures.blames c.journal-ending.ensures.idle _ _ c.journal-ending.ensures.disk)

pub returns-in-Some-clause-journaled : goal.returns-in-Some-clause-journaled
returns-in-Some-clause-journaled g c = rw c.status_of_ending.ensures (journals c.args.words.now _ (named g c) _ _ _ c.journal-ending.result _ _ _ _ c.journal-ending.ensures.ran c.journal-ending.ensures.blames c.journal-ending.ensures.idle (λ t told. g.met.F.Folders.whole _ t told))

pub returns-in-Some-clause-cut_off : goal.returns-in-Some-clause-cut_off
returns-in-Some-clause-cut_off g c = rw c.status_of_ending.ensures (stops_at_sync c.args.words.now _ (named g c) _ _ _ c.journal-ending.result _ _ _ _ c.journal-ending.ensures.ran c.journal-ending.ensures.blames c.journal-ending.ensures.idle (λ t told. g.met.F.Folders.whole _ t told))

pub returns-in-Some-clause-held_up : goal.returns-in-Some-clause-held_up
returns-in-Some-clause-held_up g c = rw c.status_of_ending.ensures (stops_at_fault c.args.words.now _ (named g c) _ _ _ c.journal-ending.result _ _ _ _ c.journal-ending.ensures.ran c.journal-ending.ensures.blames c.journal-ending.ensures.idle (λ t told. g.met.F.Folders.whole _ t told))

pub returns-in-Some-clause-full : goal.returns-in-Some-clause-full
returns-in-Some-clause-full g c = rw c.status_of_ending.ensures (stops_where_full c.args.words.now _ (named g c) _ _ _ c.journal-ending.result _ _ _ _ c.journal-ending.ensures.ran c.journal-ending.ensures.blames c.journal-ending.ensures.idle (λ t told. g.met.F.Folders.whole _ t told))

pub returns-in-Some-clause-reopens : goal.returns-in-Some-clause-reopens
returns-in-Some-clause-reopens g c = reopens c.args.words.now _ (named g c) _ _ _ c.journal-ending.result _ _ g.D.Disk.state g.D.Disk.left_since _ _ c.journal-ending.ensures.kept (λ held es told leaves. entries_held g.D.Disk.state g.D.Disk.left_since es c.args.disk.now held told (g.met.D.Disk.reads c.args.disk.now held told) (g.met.D.Disk.counts_now c.args.disk.now) leaves)

pub returns-in-Some-clause-unchanged : goal.returns-in-Some-clause-unchanged
returns-in-Some-clause-unchanged g c = rw c.status_of_ending.ensures (keeps_all c.args.words.now _ (named g c) _ _ _ c.journal-ending.result c.journal-ending.ensures.some)

pub returns-in-Some-clause-others : goal.returns-in-Some-clause-others
returns-in-Some-clause-others g c = keeps_others c.args.words.now _ (named g c) _ _ _ c.journal-ending.result c.journal-ending.ensures.some

pub returns-in-Some-clause-between : goal.returns-in-Some-clause-between
returns-in-Some-clause-between g c = leaves_between c.args.words.now _ (named g c) _ _ _ c.journal-ending.result _ _ c.journal-ending.ensures.some c.journal-ending.ensures.ran

pub returns-in-Some-clause-took : goal.returns-in-Some-clause-took
returns-in-Some-clause-took g c = rw c.status_of_ending.ensures (takes_little c.args.words.now _ (named g c) _ _ c.journal-ending.result _ _ _ _ c.journal-ending.ensures.took)

pub returns-in-Some-clause-enough : goal.returns-in-Some-clause-enough
returns-in-Some-clause-enough g c = rw c.status_of_ending.ensures (takes_enough c.args.words.now _ (named g c) _ _ c.journal-ending.result _ _ _ c.journal-ending.ensures.enough)
