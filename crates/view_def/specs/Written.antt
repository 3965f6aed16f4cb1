-- What every definition that is spelled by some text has.
use Rattle.std.specs.Prelude.{◌≡◌, ◌≤◌, Bool, true, false, ◌&&◌, length, Option, Some, None}
use Rattle.view_def.specs.RawConditions.{Raw, Raws, AnyRaw, AllRaw, NotRaw, CompareRaw, none, more}
use Rattle.view_def.specs.Tree.{ViewTree}

abbrev pub has_two : Raws → Bool
has_two (more c (more d cs)) = true
has_two cs = false

abbrev mutual
  -- OR and AND join at least two members, at each level
  pub is_well_joined : Raw → Bool
  is_well_joined (AnyRaw cs) = has_two cs && are_well_joined cs
  is_well_joined (AllRaw cs) = has_two cs && are_well_joined cs
  is_well_joined (NotRaw c) = is_well_joined c
  is_well_joined (CompareRaw s op t) = true

  pub are_well_joined : Raws → Bool
  are_well_joined none = true
  are_well_joined (more c cs) = is_well_joined c && are_well_joined cs

abbrev pub is_well_joined_filter : Option Raw → Bool
is_well_joined_filter None = true
is_well_joined_filter (Some c) = is_well_joined c

-- at least one column, one term and one declaration
pub record IsWritten (v : ViewTree) : Type 0 where
  pub columns : 1 ≤ length v.columns
  pub select : 1 ≤ length v.select
  pub decls : 1 ≤ length v.decls
  pub condition : is_well_joined_filter v.condition ≡ true
