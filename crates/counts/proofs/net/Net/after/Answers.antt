use Rattle.std.proofs.Common.{◌≡◌, rules, Some, arith}
use Rattle.std.proofs.lemmas.Fn.{always_returns_same}
use Rattle.ss_text.proofs.KeyLemmas.{IsKeyOrder}
use Rattle.counts.specs.declared.tally.Tally.{Tally}
use Rattle.counts.proofs.TallyLemmas.{tally_of, tally_there, none_there}
use Rattle.counts.proofs.net.Net.after.Given as given
use Rattle.counts.proofs.net.Net.after.Goals as goal

module _ (g : given.Over) where
  order : IsKeyOrder g.K.Ord.cmp g.K.PartialEq.eq
  order = record { total = g.met.K.Ord.total; same = g.met.K.Key.same; ties = g.met.K.Ord.matches_eq }

module _ (g : given.Over) (c : goal.After-index g) where
  there : tally_of (order g) c.args.self.now c.args.key.now ≡ Some c.index.result.now
  there =
      let position = c.in-Ok.ensures.position (λ (t : Tally _). g.K.Ord.cmp t.key c.args.key.now) (always_returns_same _ _ _ (λ a r h called. search rules)) in
      let here = tally_there (order g) c.args.key.now c.self.inside.tallies.items c.in-Ok.place c.self.invariant c.deref.result.now c.deref.ensures.value c.in-Ok.ensures.bound position c.index.result.now c.index.ensures in
      rw c.self.view_is at here

pub after-requires-clause-enough : goal.after-requires-clause-enough
after-requires-clause-enough g c = rw (there g c) at c.requires.enough

pub after-requires-clause-small : goal.after-requires-clause-small
after-requires-clause-small g c = rw (there g c) at c.requires.small

pub returns-in-Ok : goal.returns-in-Ok
returns-in-Ok g c =
    let position = c.in-Ok.ensures.position (λ (t : Tally _). g.K.Ord.cmp t.key c.args.key.now) (always_returns_same _ _ _ (λ a r h called. search rules)) in
    let here = tally_there (order g) c.args.key.now c.self.inside.tallies.items c.in-Ok.place c.self.invariant c.deref.result.now c.deref.ensures.value c.in-Ok.ensures.bound position c.index.result.now c.index.ensures in
    rw (← c.self.view_is, here) c.after.ensures

pub returns-in-Err : goal.returns-in-Err
returns-in-Err g c =
    let position = c.in-Err.ensures.position (λ (t : Tally _). g.K.Ord.cmp t.key c.args.key.now) (always_returns_same _ _ _ (λ a r h called. search rules)) in
    let none = none_there (order g) c.args.key.now c.self.inside.tallies.items c.in-Err.field-0 c.self.invariant c.deref.result.now c.deref.ensures.value c.in-Err.ensures.bound position in
    rw (← c.self.view_is, none) (omega arith)
