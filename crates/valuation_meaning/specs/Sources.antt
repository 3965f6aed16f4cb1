-- What a walk over the valuations of a view is given.
use Rattle.std.specs.Prelude.{◌≡◌, []}
use Rattle.std.specs.List.{All}
use Rattle.view_def.specs.Query.{query_of}
use Rattle.valuation_meaning.specs.declared.listing.Source.{Source}
use Rattle.valuation_meaning.specs.EarlyTests.{IsEarlyMember, IsEarlyTerm}
use Rattle.valuation_meaning.specs.Lookups.{IsLookup}
use Rattle.view_meaning.specs.Meaning.{constant_label}

pub record IsReady (s : Source) : Type 0 where
  pub label : s.label ≡ constant_label s.view.now.label
  pub empty : s.empty.now ≡ []
  pub members : All (IsEarlyMember (query_of s.view.now)) s.members.items
  pub terms : All (IsEarlyTerm (query_of s.view.now)) s.terms.items
  pub lookups : All (IsLookup (query_of s.view.now)) s.lookups.items
