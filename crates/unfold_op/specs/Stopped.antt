-- Why no lines are given.
use Rattle.std.specs.Prelude.{◌≡◌, Option, Some, None}
use Rattle.std.specs.Bool.{⊤}
use Rattle.flow_law.specs.declared.refused.Clash.{Clash}
use Rattle.flow_law.specs.declared.refused.IllegalLabel.{IllegalLabel}
use Rattle.flow_law.specs.declared.refused.EvalFault.{EvalFault}
use Rattle.flow_law.specs.declared.refused.EvalFault.TheVariants as eval

-- for this label, or where there is none for this clash, or for want of memory
abbrev pub StopsFor : Option IllegalLabel → Option Clash → EvalFault → Type 0
StopsFor label clash (eval.Illegal l) = label ≡ Some l
StopsFor label clash (eval.Conflict c) = (label ≡ None) × (clash ≡ Some c)
StopsFor label clash eval.NoMemory = ⊤
