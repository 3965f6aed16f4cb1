use Rattle.journal_law.proofs.JournaledLemmas.{did_journal, did_journal_cut_off, did_journal_held_up, did_journal_full}
use Rattle.journal_law.proofs.KeptLemmas.{kept_made}
use Rattle.journal_law.proofs.journals_are_kept.Goals as goal

pub returns-clause-done : goal.returns-clause-done
returns-clause-done c = did_journal

pub returns-clause-cut_off : goal.returns-clause-cut_off
returns-clause-cut_off c = did_journal_cut_off

pub returns-clause-held_up : goal.returns-clause-held_up
returns-clause-held_up c = did_journal_held_up

pub returns-clause-full : goal.returns-clause-full
returns-clause-full c = did_journal_full

pub returns-clause-kept : goal.returns-clause-kept
returns-clause-kept c = kept_made
