-- Why facts are refused whose labels are all legal.
use Rattle.std.specs.Prelude.{◌≡◌, List, Some, option_map}
use Rattle.std.specs.Bool.{⊤}
use Rattle.flow_law.specs.declared.refused.EvalFault.{EvalFault}
use Rattle.flow_law.specs.declared.refused.EvalFault.TheVariants as eval
use Rattle.flow_law.specs.Facts.{Fact, conflict}

-- two of these facts conflict so, or there was no memory
abbrev pub IsConflict : List Fact → EvalFault → Type 0
IsConflict fs eval.NoMemory = ⊤
IsConflict fs s = option_map eval.Conflict (conflict fs) ≡ Some s
