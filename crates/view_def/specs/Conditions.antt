-- Conditions as plain data, by a fold.
use Rattle.std.specs.Prelude.{List, [], ◌∷◌}
use Rattle.view_def.specs.declared.written.Op.{Op}
use Rattle.view_def.specs.declared.typed.Term.{Term}
use Rattle.view_def.specs.declared.typed.Cond.{Cond, fold-Cond}
use Rattle.view_def.specs.declared.typed.Cond.TheOpen.{Cond-F}
use Rattle.view_def.specs.declared.typed.Cond.TheOpen as open_cond

mutual
  pub data Condition : Type 0 where
    AnyOf : Conditions → Condition
    AllOf : Conditions → Condition
    NotOf : Condition → Condition
    Compares : Term → Op → Term → Condition

  pub data Conditions : Type 0 where
    none : Conditions
    more : Condition → Conditions → Conditions

abbrev pub conditions_of : List Condition → Conditions
conditions_of [] = none
conditions_of (x ∷ xs) = more x (conditions_of xs)

-- one layer
abbrev pub layer : Cond-F Condition → Condition
layer (open_cond.Any v) = AnyOf (conditions_of v.items)
layer (open_cond.All v) = AllOf (conditions_of v.items)
layer (open_cond.Not b) = NotOf b.value
layer (open_cond.Compare s op t) = Compares s op t

abbrev pub condition_of : Cond → Condition
condition_of c = fold-Cond Condition layer c
