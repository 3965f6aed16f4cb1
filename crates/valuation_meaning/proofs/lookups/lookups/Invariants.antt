use Rattle.std.specs.List.{All}
use Rattle.view_def.specs.Query.{query_of}
use Rattle.valuation_meaning.specs.Lookups.{IsLookup}
use Rattle.valuation_meaning.proofs.lookups.lookups.Given as goal

abbrev pub invariant-loop-place : goal.invariant-loop-place
invariant-loop-place l = All (IsLookup (query_of l.view)) l.lookups.items
