use Rattle.change_draft.proofs.DraftLemmas.{IsLeft}
use Rattle.change_draft.proofs.draft.make_all.Given as goal

abbrev pub invariant-loop-change : goal.invariant-loop-change
invariant-loop-change l = IsLeft l.fn.catalogue.databases l.changes l.catalogue.databases l.change-index
