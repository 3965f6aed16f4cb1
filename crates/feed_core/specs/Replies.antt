-- What is replied to a change, and what then stands.
use Rattle.std.specs.Prelude.{List, [], ◌∷◌, Option, Some, None, Result, Ok, Err}
use Rattle.std.specs.Global.{Box}
use Rattle.schema_model.specs.Changes.{after}
use Rattle.schema_model.specs.Refusals.{fault}
use Rattle.schema_model.specs.declared.refusal.Refusal.{Refusal}
use Rattle.schema_model.specs.declared.change.Change.{Change}
use Rattle.flow_law.specs.Tables.{TablesValue}
use Rattle.flow_law.specs.Script.{script}
use Rattle.flow_law.specs.declared.line.TableLine.{TableLine}
use Rattle.apply_law.specs.Verdicts.{Verdict, Makes, IsIllegal, Clashes}
use Rattle.apply_law.specs.Standing.{Standing, tables_of, made}
use Rattle.apply_law.specs.declared.refused.GroupRefused.{GroupRefused}
use Rattle.apply_law.specs.declared.refused.GroupRefused.TheVariants as refused

-- the script by which the tables changed, or why the change was refused
abbrev pub ReplyValue : Type 0
ReplyValue = Result (List TableLine) GroupRefused

abbrev pub unboxed : Result (List TableLine) (Box GroupRefused) → ReplyValue
unboxed (Ok lines) = Ok lines
unboxed (Err e) = Err e.value

-- the verdict on the catalogue after a change: the script to its tables, or a refusal
abbrev pub by_verdict : TablesValue → Verdict → ReplyValue
by_verdict old (Makes new) = Ok (script old new)
by_verdict old (IsIllegal label) = Err (refused.Illegal label)
by_verdict old (Clashes clash) = Err (refused.Conflict clash)

-- the catalogue refuses a change, or there is a verdict on the one after it
abbrev pub by_fault : Option Refusal → ReplyValue → ReplyValue
by_fault (Some r) later = Err (refused.Change 0 r)
by_fault None later = later

-- what is replied to a change
abbrev pub reply_to : Standing → Change → ReplyValue
reply_to s g = by_fault (fault s.catalogue g) (by_verdict (tables_of s) (s.verdict (after s.catalogue g)))

-- it is made where its reply is a script
abbrev pub standing_by : ReplyValue → Standing → Change → Standing
standing_by (Ok lines) s g = made s (g ∷ [])
standing_by (Err e) s g = s

-- what takes the change, by what it is where changes are proposed and where what is proposed is made
abbrev pub taken_by : {A : Type 0} → (A → List Change → A) → (A → A) → ReplyValue → A → Change → A
taken_by after_propose after_accept (Ok lines) to g = after_accept (after_propose to (g ∷ []))
taken_by after_propose after_accept (Err e) to g = to
