-- The walk of a change, as the laws say it.
use Rattle.std.proofs.Common.{List, Bool, arith}
use Rattle.schema_model.specs.Catalogue.{CatalogueValue}
use Rattle.schema_model.specs.Sound.{IsSound}
use Rattle.schema_model.specs.Changes.{after}
use Rattle.schema_model.specs.declared.change.Change.{Change}
use Rattle.view_def.specs.Query.{Query}
use Rattle.view_def.specs.Profile.{IsViewOfProfile}
use Rattle.schema_delta.specs.Net.{IsNet}
use Rattle.plan_law.specs.Chain.{Sides, SideMoves, AreNet}
use Rattle.plan_law.specs.Marks.{OfRow}
use Rattle.plan_law.specs.Laws.{IsWalk, FactsMove, SidesFollow, IsBounded}
use Rattle.plan_law.proofs.First.{first_of}
use Rattle.plan_law.proofs.PlanMoves.{plan_moved, plan_kept, facts_moved}
use Rattle.plan_law.proofs.TouchedSteps.{bounded}
use Rattle.operator_law.specs.declared.delta.Signed.{Signed}

module _ (c c' : CatalogueValue) (q : Query) (ks : List Sides) (ps : List SideMoves) (out : List Signed) where
  pub facts_move : IsSound c → IsSound c' → IsViewOfProfile q → IsWalk c c' q ks ps out → FactsMove c c' q out
  facts_move sound sound' profile w = facts_moved c c' q out sound sound' profile (plan_moved c c' q ks ps out (first_of q profile) w.deltas w.moved w.stands w.walks)

  pub sides_follow : IsViewOfProfile q → IsWalk c c' q ks ps out → SidesFollow c' q ks ps
  sides_follow profile w ls commits = plan_kept c c' q ks ps out (first_of q profile) w.deltas w.moved w.stands w.walks ls commits

pub is_bounded : (c : CatalogueValue) (q : Query) (g : Change) (up : Bool) (ks : List Sides) (ps : List SideMoves) (out : List Signed) → IsViewOfProfile q → OfRow g up → IsWalk c (after c g) q ks ps out → AreNet ps → IsNet out → IsBounded c q g ks ps out
is_bounded c q g up ks ps out profile one w net is_net =
    let r = bounded c q g up one ks ps out net profile w.deltas w.moved w.stands w.walks in
    let few = r.1 is_net in
    record { pairs = r.0; moves = few; all = omega (arith, r.0, few) }
