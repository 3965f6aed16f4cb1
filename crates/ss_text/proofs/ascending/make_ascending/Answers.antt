use Rattle.std.proofs.Common.{sym, subst}
use Rattle.std.specs.List.Sorted.{IsStrictlySortedBy}
use Rattle.ss_text.proofs.AscendingLemmas.{sorted_once, ascending_ascends}
use Rattle.ss_text.proofs.ascending.make_ascending.Goals as goal

pub returns-clause-ok : goal.returns-clause-ok
returns-clause-ok g c = sorted_once g.T.Ord.cmp g.met.T.Ord.total c.requires g.T.PartialEq.eq g.met.T.Ord.matches_eq _ _ _ c.in_ok-sort.ensures.permutation c.in_ok-sort.ensures.sorted c.dedup.ensures.filtered

pub returns-clause-ascends : goal.returns-clause-ascends
returns-clause-ascends g c = subst (IsStrictlySortedBy g.T.Ord.cmp) (sym (returns-clause-ok g c)) (ascending_ascends g.T.Ord.cmp g.met.T.Ord.total c.args.items.now.items)
