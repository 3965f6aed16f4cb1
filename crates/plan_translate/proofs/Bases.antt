-- What a plan has of each declaration is what the law of plans names.
use Rattle.std.proofs.Common.{◌≡◌, ℕ, suc, List, [], ◌∷◌, ◌++◌, Bool, true, false, cond, drop, map, refl, ap, sym, ◌∙◌}
use Rattle.std.specs.List.{slice_get}
use Rattle.plan_law.specs.Kinds.{Term, Range}
use Rattle.plan_law.specs.Kinds.range
use Rattle.view_def.specs.Query.{Query}
use Rattle.view_def.specs.Profile.{is_range_over, IsViewOfProfile}
use Rattle.schema_delta.specs.declared.spec.FlatSpec.{FlatSpec}
use Rattle.join_delta.specs.Joins.{JoinValue}
use Rattle.plan_law.specs.Columns.{header}
use Rattle.plan_law.specs.Chain.{Joint, Sides}
use Rattle.plan_law.specs.PlanRows.{specs_from, joints_from, plan_joints}
use Rattle.plan_law.specs.PlanMoves.{no_sides}
use Rattle.plan_law.proofs.Empty.{filled}
use Rattle.plan_law.proofs.First.{first_of}
use Rattle.plan_law.proofs.Profile.{ranges}
use Rattle.plan_form.specs.declared.base.Base.{Base}
use Rattle.plan_form.specs.Bases.{BaseValue, base_value, base_form, bases_from}
use Rattle.plan_translate.specs.ChainStages.{joint_in, sides_in}
use Rattle.plan_translate.specs.Read.{is_read, left_side}
use Rattle.plan_translate.specs.Plans.{JoinsStand}
use Rattle.plan_translate.specs.Parts.{bases_of, joint_with, joints_with, fresh_join}

abbrev spec_in : BaseValue → FlatSpec
spec_in b = b.spec

pub specs_of : (q : Query) (ds : List Range) (h : List Term) (k : ℕ) → map spec_in (bases_from q h k ds) ≡ specs_from q k ds
specs_of q [] h k = refl
specs_of q (range.Alias j a ∷ ds) h k = specs_of q ds h (suc k)
specs_of q (d ∷ ds) h k = ap (λ (ss : List FlatSpec). spec_in (base_form q h k d) ∷ ss) (specs_of q ds (h ++ header q k d) (suc k))

joints_of : (q : Query) (ds : List Range) (h : List Term) (k : ℕ) → map joint_with (bases_from q h k ds) ≡ joints_from q h k ds
joints_of q [] h k = refl
joints_of q (range.Alias j a ∷ ds) h k = joints_of q ds h (suc k)
joints_of q (d ∷ ds) h k = ap (λ (js : List Joint). joint_with (base_form q h k d) ∷ js) (joints_of q ds (h ++ header q k d) (suc k))

-- the first declaration has no join
pub record FirstBase (q : Query) : Type 0 where
  pub first : Range
  pub rest : List Range
  pub all : q.decls ≡ first ∷ rest
  pub bases : bases_of q ≡ base_form q [] 0 first ∷ bases_from q (header q 0 first) 1 rest

first_kind : (q : Query) (d : Range) (ds : List Range) → is_range_over [] d ≡ true → bases_from q [] 0 (d ∷ ds) ≡ base_form q [] 0 d ∷ bases_from q (header q 0 d) 1 ds
first_kind q (range.Alias j a) ds over = cc
first_kind q range.Databases ds over = refl
first_kind q (range.Relations p) ds over = refl
first_kind q (range.Attributes p r) ds over = refl
first_kind q (range.Tuples p r) ds over = refl
first_kind q (range.Values p r a) ds over = refl

pub first_base : (q : Query) → IsViewOfProfile q → FirstBase q
first_base q profile =
    let b = first_of q profile in
    let over : is_range_over [] b.first ≡ true = ranges q profile 0 b.first (ap (λ (ds : List Range). slice_get ds 0) b.all) in
    record {
      first = b.first;
      rest = b.rest;
      all = b.all;
      bases = ap (bases_from q [] 0) b.all ∙ first_kind q b.first b.rest over;
    }

pub plan_joints_with : (q : Query) → IsViewOfProfile q → joints_with (bases_of q) ≡ plan_joints q q.decls
plan_joints_with q profile =
    let b = first_base q profile in
    ap joints_with b.bases ∙ joints_of q b.rest (header q 0 b.first) 1 ∙ sym (ap (plan_joints q) b.all)

-- the joins that are made
abbrev nothing : Joint → Sides
nothing j = record { left = []; right = [] }

each_joint : (bs : List Base) → map joint_in (map fresh_join bs) ≡ map joint_with (map base_value bs)
each_joint [] = refl
each_joint (b ∷ bs) = ap (λ (js : List Joint). joint_with (base_value b) ∷ js) (each_joint bs)

each_nothing : (bs : List Base) → map sides_in (map fresh_join bs) ≡ map nothing (map joint_with (map base_value bs))
each_nothing [] = refl
each_nothing (b ∷ bs) = ap (λ (ks : List Sides). nothing (joint_with (base_value b)) ∷ ks) (each_nothing bs)

fresh_joints : (bs : List Base) → map joint_in (map fresh_join (drop 1 bs)) ≡ joints_with (map base_value bs)
fresh_joints [] = refl
fresh_joints (b ∷ bs) = each_joint bs

fresh_sides : (bs : List Base) → map sides_in (map fresh_join (drop 1 bs)) ≡ map nothing (joints_with (map base_value bs))
fresh_sides [] = refl
fresh_sides (b ∷ bs) = each_nothing bs

module _ (q : Query) (profile : IsViewOfProfile q) (bs : List Base) (joins : List JoinValue) (of : map base_value bs ≡ bases_of q) (made : joins ≡ map fresh_join (drop 1 bs)) where
  pub made_joints : map joint_in joins ≡ plan_joints q q.decls
  made_joints = ap (map joint_in) made ∙ fresh_joints bs ∙ ap joints_with of ∙ plan_joints_with q profile

  pub made_sides : map sides_in joins ≡ no_sides q
  made_sides = ap (map sides_in) made ∙ fresh_sides bs ∙ ap (map nothing) (ap joints_with of ∙ plan_joints_with q profile)

-- sides that keep nothing have no right rows
none_right : (js : List Joint) → map left_side (map nothing js) ≡ map nothing js
none_right [] = refl
none_right (j ∷ js) = ap (λ (ks : List Sides). nothing j ∷ ks) (none_right js)

none_kept : (b : Bool) (js : List Joint) → map nothing js ≡ cond b (map left_side (map nothing js)) (map nothing js)
none_kept true js = sym (none_right js)
none_kept false js = refl

pub fresh_stand : (q : Query) → IsViewOfProfile q → JoinsStand [] q (no_sides q)
fresh_stand q profile = record { sides = no_sides q; keeps = (filled [] q profile).stands; kept_are = none_kept (is_read q) (plan_joints q q.decls) }
