use Rattle.std.proofs.Common.{ap}
use Rattle.view_session.specs.Coming.{NamesState}
use Rattle.view_session.proofs.WaitLemmas.{can_end_named}
use Rattle.view_session.proofs.session.Session.clear_changed.Goals as goal

pub invariant_of-self : goal.invariant_of-self
invariant_of-self c =
    let s = c.self.inside in
    record {
      kept = c.self.invariant.kept;
      shape = c.self.invariant.shape;
      waits = can_end_named s.catalogue s.upkeep s.changed c.clear.new.self s.waits (ap (λ (n : NamesState). n.coming) c.clear.ensures) c.self.invariant.waits;
    }
