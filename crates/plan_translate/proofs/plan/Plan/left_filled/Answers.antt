use Rattle.std.proofs.Common.{◌≡◌, ◌∷◌, ◌++◌, [], List, None, map, arith, ap, sym, ◌∙◌, subst}
use Rattle.ss_text.specs.Texts.{Row}
use Rattle.schema_delta.specs.Flat.{flat}
use Rattle.join_delta.specs.Joins.{JoinValue}
use Rattle.plan_translate.specs.ChainStages.{joint_in, sides_in}
use Rattle.plan_translate.specs.Listed.{rows_passing}
use Rattle.plan_translate.specs.Plans.{query_in, JoinsStand}
use Rattle.plan_translate.proofs.Moving.{one_in, joined_in}
use Rattle.plan_translate.proofs.PlanFilled.{left_joints, left_stand}
use Rattle.plan_translate.proofs.plan.Plan.left_filled.Goals as goal

pub index-requires-3 : goal.index-requires-3
index-requires-3 c =
    let p = c.args.self.now in
    omega (arith, one_in c.self.inside c.self.invariant p c.self.view_is c.requires, joined_in c.self.inside c.self.invariant p c.self.view_is, c.self.inside.joins.ok.0)

pub returns-clause-joints : goal.returns-clause-joints
returns-clause-joints c =
    let i = c.self.inside in
    let p = c.args.self.now in
    let d = c.args.catalogue.now.databases in
    let spec = c.index.result.now in
    let test = c.index-2.result.now in
    let old : JoinValue = c.index-3.result.now in
    let join : JoinValue = c.in_ok-join.join in
    let first : c.in_ok-first.first.items ≡ rows_passing test.items (flat d spec) = c.in_ok-first.ensures ∙ ap (λ ts. rows_passing ts (flat d spec)) c.deref.ensures.value in
    let made : join ≡ record { left_key = old.left_key; right_key = old.right_key; left = rows_passing test.items (flat d spec); right = []; waiting = None } =
    c.in_ok-join.ensures.keeps
    ∙ ap (λ (rows : List Row). record { left_key = old.left_key; right_key = old.right_key; left = rows; right = c.new.result.items; waiting = None }) first
    ∙ ap (λ (rows : List Row). record { left_key = old.left_key; right_key = old.right_key; left = rows_passing test.items (flat d spec); right = rows; waiting = None }) c.new.ensures.items in
    let pushed : c.push.new.self.items ≡ join ∷ [] = c.in_ok-push.ensures.items ∙ ap (λ (l : List JoinValue). l ++ join ∷ []) c.new-joins.ensures.items in
    ap (map joint_in) pushed ∙ left_joints i c.self.invariant d p c.self.view_is c.requires spec test old join c.index.ensures c.index-2.ensures c.index-3.ensures made

pub returns-clause-stand : goal.returns-clause-stand
returns-clause-stand c =
    let i = c.self.inside in
    let p = c.args.self.now in
    let d = c.args.catalogue.now.databases in
    let spec = c.index.result.now in
    let test = c.index-2.result.now in
    let old : JoinValue = c.index-3.result.now in
    let join : JoinValue = c.in_ok-join.join in
    let first : c.in_ok-first.first.items ≡ rows_passing test.items (flat d spec) = c.in_ok-first.ensures ∙ ap (λ ts. rows_passing ts (flat d spec)) c.deref.ensures.value in
    let made : join ≡ record { left_key = old.left_key; right_key = old.right_key; left = rows_passing test.items (flat d spec); right = []; waiting = None } =
    c.in_ok-join.ensures.keeps
    ∙ ap (λ (rows : List Row). record { left_key = old.left_key; right_key = old.right_key; left = rows; right = c.new.result.items; waiting = None }) first
    ∙ ap (λ (rows : List Row). record { left_key = old.left_key; right_key = old.right_key; left = rows_passing test.items (flat d spec); right = rows; waiting = None }) c.new.ensures.items in
    let pushed : c.push.new.self.items ≡ join ∷ [] = c.in_ok-push.ensures.items ∙ ap (λ (l : List JoinValue). l ++ join ∷ []) c.new-joins.ensures.items in
    subst (λ (js : List JoinValue). JoinsStand d (query_in p) (map sides_in js)) (sym pushed)
    (left_stand i c.self.invariant d p c.self.view_is c.requires spec test old join c.index.ensures c.index-2.ensures c.index-3.ensures made)
