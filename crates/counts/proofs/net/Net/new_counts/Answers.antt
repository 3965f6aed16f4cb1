use Rattle.std.proofs.Common.{refl}
use Rattle.ss_text.proofs.KeyLemmas.{IsKeyOrder}
use Rattle.counts.proofs.TallyLemmas.{all_own}
use Rattle.counts.proofs.net.Net.new_counts.Given as given
use Rattle.counts.proofs.net.Net.new_counts.Goals as goal

module _ (g : given.Over) where
  order : IsKeyOrder g.K.Ord.cmp g.K.PartialEq.eq
  order = record { total = g.met.K.Ord.total; same = g.met.K.Key.same; ties = g.met.K.Ord.matches_eq }

pub loop-tally-init : goal.loop-tally-init
loop-tally-init g c =
    let ts = c.self.inside.tallies.items in
    let taken = c.into_iter-tally-iterator.ensures.into_iter_gives.0 in
    let own = all_own (order g) ts c.self.invariant in
    record {
      own = rw (taken, c.self.view_is) (rw c.self.view_is at own);
      items = rw (c.in_ok-counts.ensures.items, taken, c.self.view_is) refl;
    }
