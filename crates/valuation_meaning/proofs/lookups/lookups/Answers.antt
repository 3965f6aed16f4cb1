use Rattle.std.proofs.lemmas.List.Elements.{All-push}
use Rattle.view_def.specs.Query.{query_of}
use Rattle.valuation_meaning.specs.Lookups.{IsLookup}
use Rattle.valuation_meaning.proofs.lookups.lookups.Goals.{in-Some+in_ok-push, in_default}
use Rattle.valuation_meaning.proofs.lookups.lookups.Goals as goal

pub loop-place-preserved : goal.loop-place-preserved
loop-place-preserved c =
    let P = IsLookup (query_of c.args.view.now) in
    elim c.match-lookup_at.branch [
      | in-Some+in_ok-push w ↦ rw (w.lookups-is, w.in_ok-push.ensures.items) (All-push P c.loop-place.lookups.items _ c.loop-place.invariant w.in-Some.ensures)
      | in_default w ↦ rw w.lookups-is c.loop-place.invariant
    ]
