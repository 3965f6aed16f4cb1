-- Views whose tables have records.
use Rattle.std.specs.Prelude.{◌≢◌, []}
use Rattle.view_def.specs.Query.{Query}

-- each record of the tables has a field: there is a constant column, and a term for its value
pub record HasRecords (q : Query) : Type 0 where
  pub columns : q.constants ≢ []
  pub terms : q.keys ≢ []
