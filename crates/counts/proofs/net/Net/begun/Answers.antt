use Rattle.std.proofs.Common.{◌≡◌, ◌∙◌, sym, subst, Some, List}
use Rattle.std.specs.List.Sorted.{IsStrictlySortedBy}
use Rattle.ss_text.proofs.KeyLemmas.{IsKeyOrder}
use Rattle.counts.specs.declared.tally.Tally.{Tally}
use Rattle.counts.specs.Counted.{keys_of}
use Rattle.counts.proofs.TallyLemmas.{tally_of, own_at}
use Rattle.counts.proofs.net.Net.begun.Given as given
use Rattle.counts.proofs.net.Net.begun.Goals as goal

module _ (g : given.Over) where
  order : IsKeyOrder g.K.Ord.cmp g.K.PartialEq.eq
  order = record { total = g.met.K.Ord.total; same = g.met.K.Key.same; ties = g.met.K.Ord.matches_eq }

pub begins-requires-clause-own : goal.begins-requires-clause-own
begins-requires-clause-own g c =
    let items = c.deref-tally-items.result.now in
    let ascend = subst (λ (ts : List (Tally _)). IsStrictlySortedBy g.K.Ord.cmp (keys_of ts)) (sym c.deref-tally-items.ensures.value) c.self.invariant in
    let own = own_at (order g) items c.loop-tally.tally-index c.tally-item.result ascend c.loop-tally-test.true c.tally-item.is in
    subst (λ (ts : List (Tally _)). tally_of (order g) ts c.tally-item.result.key ≡ Some c.tally-item.result) (c.deref-tally-items.ensures.value ∙ c.self.view_is) own
