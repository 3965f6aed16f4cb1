-- Why a view has no tables.
use Rattle.std.specs.Prelude.{◌≡◌, List, Option, Some}
use Rattle.std.specs.Bool.{⊤}
use Rattle.flow_law.specs.declared.shape.Shape.{Shape}
use Rattle.flow_law.specs.declared.refused.EvalFault.{EvalFault}
use Rattle.flow_law.specs.declared.refused.EvalFault.TheVariants as eval
use Rattle.flow_law.specs.Facts.{Fact, refusal_by}

-- the fault is this one, or there was no memory
abbrev pub IsFault : Option EvalFault → EvalFault → Type 0
IsFault expected eval.NoMemory = ⊤
IsFault expected fault = expected ≡ Some fault

-- a view with these facts is refused so, or there was no memory
abbrev pub IsFaultOf : Shape → List Fact → EvalFault → Type 0
IsFaultOf shape fs fault = IsFault (refusal_by eval.Illegal eval.Conflict shape fs) fault
