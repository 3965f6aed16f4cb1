-- Terms, where the variable of an alias is read as the cell that it names.
use Rattle.std.specs.Prelude.{ℕ, List, slice_get, Option, Some, None}
use Rattle.view_def.specs.declared.typed.Term.{Term}
use Rattle.view_def.specs.declared.typed.Term.TheVariants as term
use Rattle.view_def.specs.declared.typed.Range.{Range}
use Rattle.view_def.specs.declared.typed.Range.TheVariants as range

-- the variable of a declaration: an alias is the cell that it names
abbrev pub variable_of : ℕ → Option Range → Term
variable_of k None = term.Var k
variable_of k (Some range.Databases) = term.Var k
variable_of k (Some (range.Relations db)) = term.Var k
variable_of k (Some (range.Attributes db rel)) = term.Var k
variable_of k (Some (range.Tuples db rel)) = term.Var k
variable_of k (Some (range.Values db rel a)) = term.Var k
variable_of k (Some (range.Alias j a)) = term.Cell j a

abbrev pub resolved : List Range → Term → Term
resolved ds (term.Literal t) = term.Literal t
resolved ds (term.Var k) = variable_of k (slice_get ds k)
resolved ds (term.Cell k a) = term.Cell k a
