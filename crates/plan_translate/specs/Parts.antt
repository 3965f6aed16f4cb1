-- What a plan has of each declaration, and moves that pass its tests.
use Rattle.std.specs.Prelude.{true, List, [], ◌∷◌, filter, map, Vec, None}
use Rattle.std.specs.List.{list_all}
use Rattle.std.specs.Global.{Global}
use Rattle.view_def.specs.Query.{Query}
use Rattle.join_delta.specs.Joined.{matches}
use Rattle.plan_law.specs.Chain.{Joint}
use Rattle.join_delta.specs.Joins.{JoinValue}
use Rattle.plan_form.specs.declared.base.Base.{Base}
use Rattle.plan_form.specs.declared.base.Equal.{Equal}
use Rattle.plan_form.specs.Bases.{BaseValue, bases_from, equal_holds}
use Rattle.operator_law.specs.declared.delta.Signed.{Signed}

-- what a plan keeps of the declarations of a view
abbrev pub bases_of : Query → List BaseValue
bases_of q = bases_from q [] 0 q.decls

-- the join with a declaration, and those with all behind the first
abbrev pub joint_with : BaseValue → Joint
joint_with b = record { keys = matches b.left_key b.right_key; passes = λ row. true }

abbrev pub joints_with : List BaseValue → List Joint
joints_with [] = []
joints_with (b ∷ bs) = map joint_with bs

-- the moves of rows that pass these tests
abbrev pub passing : List Equal → List Signed → List Signed
passing tests ms = filter (λ (m : Signed). list_all (equal_holds m.row) tests) ms

-- for each declaration
abbrev pub each_passing : List (List Equal) → List (List Signed) → List (List Signed)
each_passing [] mss = []
each_passing (t ∷ ts) [] = []
each_passing (t ∷ ts) (ms ∷ mss) = passing t ms ∷ each_passing ts mss

-- the tests that a plan has of its declarations
abbrev pub own_tests : List (Vec Equal Global) → List (List Equal)
own_tests ts = map (λ (t : Vec Equal Global). t.items) ts

-- a join with a declaration that keeps no rows
abbrev pub fresh_join : Base → JoinValue
fresh_join b = record { left_key = b.left_key.items; right_key = b.right_key.items; left = []; right = []; waiting = None }
