-- A run: its session, and what is counted.
use Rattle.std.specs.Prelude.{◌≡◌, ℕ, zero, suc, ◌+◌, ◌*◌, ◌^◌, ◌≤◌, Bool, ◌||◌, length, Option, Some, None, is_some, codes, if◌then◌else◌}
use Rattle.schema_model.specs.declared.change.Change.{Change}
use Rattle.schema_model.specs.Changes.{after}
use Rattle.schema_model.specs.Refusals.{fault}
use Rattle.flow_law.specs.declared.shape.Shape.{Shape}
use Rattle.flow_law.specs.Tables.{TableValue, table_of}
use Rattle.view_meaning.specs.Meaning.{shape_of}
use Rattle.view_meaning.specs.Refusal.{refusal}
use Rattle.view_folder.specs.TableFiles.{table_text}
use Rattle.view_session.specs.Session.{SessionState, opened, moved, lines_to, tables_of}
use Rattle.load_run.specs.Start.{catalogue, query}
use Rattle.load_run.specs.Generator.{change_at}
use Rattle.load_run.specs.declared.summary.Size.{Size}
use Rattle.load_run.specs.declared.summary.Summary.{Summary}

-- the session, how many changes were accepted and how many refused, and the lines of all scripts
pub record RunState : Type 0 where
  pub session : SessionState
  pub accepted : ℕ
  pub refused : ℕ
  pub lines : ℕ

-- the view is the run's, no group is open and nothing is proposed, and the lines of each script are counted in 64 bits
pub record IsRun (r : RunState) : Type 0 where
  pub view : r.session.query ≡ query
  pub idle : r.session.held ≡ None
  pub unproposed : r.session.proposed ≡ None
  pub lines : r.lines ≤ r.accepted * 2 ^ 64

-- whether a change is refused: by the catalogue, or by the view over the changed one
abbrev pub is_refused : SessionState → Change → Bool
is_refused s g = is_some (fault s.catalogue g) || is_some (refusal (after s.catalogue g) s.query)

-- the lines of the script of a change, none where it is refused
abbrev pub lines_of : SessionState → Change → Option ℕ
lines_of s g = if is_refused s g then None else Some (length (lines_to s (after s.catalogue g)))

-- the session after a change, the same where it is refused
abbrev pub session_after : SessionState → Change → SessionState
session_after s g = if is_refused s g then s else moved s g

-- a change is counted with its lines, or as a refused one
abbrev pub counted : RunState → SessionState → Option ℕ → RunState
counted r s None = record { session = s; accepted = r.accepted; refused = r.refused + 1; lines = r.lines }
counted r s (Some n) = record { session = s; accepted = r.accepted + 1; refused = r.refused; lines = r.lines + n }

abbrev pub answered : RunState → Change → RunState
answered r g = counted r (session_after r.session g) (lines_of r.session g)

abbrev pub started : RunState
started = record { session = opened query catalogue; accepted = 0; refused = 0; lines = 0 }

-- after the first so many changes with a seed
abbrev pub ran : ℕ → ℕ → RunState
ran seed zero = started
ran seed (suc n) = answered (ran seed n) (change_at seed n)

-- the size of a table of a form
abbrev pub size_in : Shape → TableValue → Size
size_in shape t = record { rows = length t.rows; columns = length t.columns; bytes = length (table_text shape t) }

-- that of a table of the view, nothing where there is none
abbrev pub size_by : SessionState → Option TableValue → Size
size_by s None = record { rows = 0; columns = 0; bytes = 0 }
size_by s (Some t) = size_in (shape_of s.query) t

abbrev pub size_of : SessionState → Size
size_of s = size_by s (table_of (tables_of s) (codes "t"))

abbrev pub summary_by : RunState → Summary
summary_by r = record { accepted = r.accepted; refused = r.refused; lines = r.lines; table = size_of r.session }

-- of so many changes with a seed
abbrev pub summary_of : ℕ → ℕ → Summary
summary_of changes seed = summary_by (ran seed changes)
