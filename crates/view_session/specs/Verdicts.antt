-- The verdict of a view over each catalogue, and a session as what takes changes in two steps.
use Rattle.std.specs.Prelude.{◌≡◌, List, Option, None, Some, unwrap_or}
use Rattle.schema_model.specs.Catalogue.{CatalogueValue}
use Rattle.schema_model.specs.Sound.{IsSound}
use Rattle.schema_model.specs.declared.change.Change.{Change}
use Rattle.view_def.specs.Query.{Query}
use Rattle.flow_law.specs.Facts.{refusal_by}
use Rattle.view_meaning.specs.Meaning.{facts, meaning, shape_of}
use Rattle.view_meaning.specs.Orders.{DifferInOrder}
use Rattle.view_meaning.proofs.OrderLemmas.{meaning_same, refused_same}
use Rattle.apply_law.specs.Standing.{Standing, Waiting, Idle, Proposes, Busy}
use Rattle.apply_law.specs.Verdicts.{Verdict, Makes, IsIllegal, Clashes}
use Rattle.apply_law.specs.declared.refused.GroupRefused.{GroupRefused}
use Rattle.apply_law.specs.declared.refused.GroupRefused.TheVariants as group
use Rattle.view_session.specs.Limits.{limit_over}
use Rattle.view_session.specs.Session.{SessionState}
use Rattle.view_session.specs.declared.fault.Refused.{Refused}
use Rattle.view_session.specs.declared.fault.Refused.TheVariants as refused

-- an illegal label of the view's facts, or else a clash, or else their tables
abbrev pub verdict_of : Query → CatalogueValue → Verdict
verdict_of q c = unwrap_or (refusal_by IsIllegal Clashes (shape_of q) (facts c q)) (Makes (meaning c q))

-- sound catalogues that differ in the order of rows and of attributes alone have the same verdict
pub verdict_same : (q : Query) (c d : CatalogueValue) → IsSound c → IsSound d → DifferInOrder c d → verdict_of q c ≡ verdict_of q d
verdict_same q c d sound also order = λ i. unwrap_or (refused_same c d q sound also order IsIllegal Clashes i) (Makes (meaning_same c d q sound also order i))

-- what a session is to those who see no view
abbrev pub standing_of : SessionState → Standing
standing_of s = record { catalogue = s.catalogue; shape = shape_of s.query; verdict = verdict_of s.query; limit = limit_over s.query }

-- an open group has to end before something is proposed
abbrev pub waiting_by : Option (List Change) → Option (List Change) → Waiting
waiting_by None None = Idle
waiting_by None (Some gs) = Proposes gs
waiting_by (Some hs) proposed = Busy

abbrev pub waiting_of : SessionState → Waiting
waiting_of s = waiting_by s.held s.proposed

-- why the one change of several is refused
abbrev pub first_refused : Refused → GroupRefused
first_refused (refused.Change r) = group.Change 0 r
first_refused (refused.Illegal label) = group.Illegal label
first_refused (refused.Conflict clash) = group.Conflict clash
first_refused refused.NoMemory = group.NoMemory
