-- The members of the outermost AND of a condition.
use Rattle.std.proofs.Common.{◌≡◌, ◌∙◌, List, [], ◌∷◌, map, refl, sym, ap}
use Rattle.std.specs.Prelude.{Vec}
use Rattle.std.specs.Global.{Global}
use Rattle.view_def.specs.declared.typed.Cond.{Cond, Cond-F, fold-roll-Cond}
use Rattle.view_def.specs.declared.typed.Cond.TheVariants as cond_is
use Rattle.view_def.specs.declared.typed.Cond.TheVariants.{rolls-All}
use Rattle.view_def.specs.Conditions.{condition_of, conditions_of, layer, Condition, AllOf}
use Rattle.view_meaning.specs.Early.{listed}

pub listed_of : (ms : List Condition) → listed (conditions_of ms) ≡ ms
listed_of [] = refl
listed_of (m ∷ ms) = ap (λ l. m ∷ l) (listed_of ms)

pub all_is : (ms : Vec Cond Global) → condition_of (cond_is.All ms) ≡ AllOf (conditions_of (map condition_of ms.items))
all_is ms = ap condition_of (sym (rolls-All ms)) ∙ fold-roll-Cond Condition layer (Cond-F.All ms)
