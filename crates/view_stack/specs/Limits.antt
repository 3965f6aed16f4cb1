-- The first limit that a database passes, and that lines pass on the way to others.
use Rattle.std.specs.Prelude.{◌≡◌, ℕ, Bool, List, [], ◌∷◌, length, Option, None, Some, nat_lt, sum_by, if◌then◌else◌, ⊤}
use Rattle.std.specs.List.{list_any}
use Rattle.std.specs.Option.{option_or}
use Rattle.ss_text.specs.Texts.{Text}
use Rattle.flow_law.specs.declared.shape.Shape.{Shape}
use Rattle.flow_law.specs.Tables.{TableValue, TablesValue}
use Rattle.flow_law.specs.Lines.{after_line}
use Rattle.flow_law.specs.declared.line.TableLine.{TableLine}
use Rattle.schema_model.specs.Catalogue.{RelationValue, DatabaseValue, rows_in}
use Rattle.schema_model.specs.Limits.{most_relations, most_attributes, most_rows}
use Rattle.schema_model.specs.declared.refusal.Which.{Which}
use Rattle.schema_model.specs.declared.refusal.Which.TheVariants.{Relations, Attributes, Rows}
use Rattle.view_stack.specs.Stands.{database_for}
use Rattle.view_stack.specs.declared.fault.LiftFault.{LiftFault}
use Rattle.view_stack.specs.declared.fault.LiftFault.TheVariants.{Limit, NoMemory}

-- a limit, where more than the most are counted
abbrev pub past : ℕ → ℕ → Which → Option Which
past most count which = if nat_lt most count then Some which else None

-- whether a relation has too many attributes
abbrev pub is_wide : RelationValue → Bool
is_wide r = nat_lt most_attributes (length r.attributes)

-- how many rows tables have
abbrev pub row_total : TablesValue → ℕ
row_total ts = sum_by (λ (p : Text × TableValue). length p.1.rows) ts

-- of its relations, then of the attributes of any of them, then of the rows of all
abbrev pub first_limit : DatabaseValue → Option Which
first_limit d =
    option_or (past most_relations (length d.relations) Relations)
    (option_or (if list_any is_wide d.relations then Some Attributes else None) (past most_rows (rows_in d) Rows))

-- there is no such database: it would pass this limit, or there was no memory
abbrev pub IsLiftFault : Option Which → LiftFault → Type 0
IsLiftFault o (Limit which) = o ≡ Some which
IsLiftFault o NoMemory = ⊤

-- the first that is passed by the databases that tables are after each of these lines in turn
abbrev pub lifted_limit : Text → Shape → TablesValue → List TableLine → Option Which
lifted_limit db shape ts [] = None
lifted_limit db shape ts (line ∷ lines) =
    option_or (first_limit (database_for db shape (after_line ts line))) (lifted_limit db shape (after_line ts line) lines)
