-- What the steps of an opened view answer, against the definitions.
use Rattle.std.specs.Prelude.{◌≡◌}
use Rattle.ss_text.specs.Texts.{Row}
use Rattle.outside.specs.Effects.{World, contents, performed}
use Rattle.course.specs.Answering.{Reply, Continues, Finishes}
use Rattle.course.specs.declared.status.Verdict.{Verdict}
use Rattle.schema_model.specs.declared.change.Change.{Change}
use Rattle.flow_law.specs.declared.refused.EvalFault.{EvalFault}
use Rattle.flow_law.specs.declared.refused.EvalFault.TheVariants as eval
use Rattle.view_session.specs.declared.fault.HoldRefused.{HoldRefused}
use Rattle.view_session.specs.declared.fault.HoldRefused.TheVariants as hold
use Rattle.view_session.specs.declared.fault.Refused.{Refused}
use Rattle.view_session.specs.declared.fault.Refused.TheVariants as refused
use Rattle.ss_print.specs.Fields.{refusal_fields, illegal_fields, clash_fields}

-- the fields of a view that has no tables
abbrev pub IsFaultFieldsOf : EvalFault → Row → Type 0
IsFaultFieldsOf (eval.Illegal e) row = row ≡ illegal_fields e
IsFaultFieldsOf (eval.Conflict e) row = row ≡ clash_fields e
IsFaultFieldsOf eval.NoMemory row = ⊥

-- the fields of a change that is refused
abbrev pub IsFieldsOf : Change → Refused → Row → Type 0
IsFieldsOf g (refused.Change r) row = row ≡ refusal_fields g r
IsFieldsOf g (refused.Illegal e) row = row ≡ illegal_fields e
IsFieldsOf g (refused.Conflict e) row = row ≡ clash_fields e
IsFieldsOf g refused.NoMemory row = ⊥

-- the fields of a change that is not held
abbrev pub IsHoldFieldsOf : Change → HoldRefused → Row → Type 0
IsHoldFieldsOf g (hold.Change r) row = row ≡ refusal_fields g r
IsHoldFieldsOf g hold.NoMemory row = ⊥

-- an opening did all of its effects and goes on with a state, or it ended the run
abbrev pub Begins : {A : Type 0} → Reply A → World → World → A → Type 0
Begins (Continues es a) old new b = (contents new ≡ performed es (contents old)) × (b ≡ a)
Begins (Finishes es v) old new b = ⊥

abbrev pub EndsRun : {A : Type 0} → Reply A → World → World → Verdict → Type 0
EndsRun (Continues es a) old new w = ⊥
EndsRun (Finishes es v) old new w = (contents new ≡ performed es (contents old)) × (w ≡ v)

-- an opening that goes on with what a machine makes of its state
abbrev pub starting : {A B : Type 0} → (A → B) → Reply A → Reply B
starting f (Continues es a) = Continues es (f a)
starting f (Finishes es v) = Finishes es v
