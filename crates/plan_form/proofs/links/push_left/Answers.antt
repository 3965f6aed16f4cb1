use Rattle.std.proofs.Common.{map, arith}
use Rattle.view_def.specs.Query.{query_of}
use Rattle.plan_law.specs.Links.{Left}
use Rattle.plan_form.specs.Sources.{seen_link}
use Rattle.plan_form.proofs.Steps.{column_turn}
use Rattle.plan_form.proofs.links.push_left.Goals as goal

pub loop-place-preserved : goal.loop-place-preserved
loop-place-preserved c =
    column_turn (query_of c.args.view.now) c.args.left.now c.args.right.now Left (map seen_link c.args.links.now.items) (map seen_link c.loop-place.links.items) (map seen_link c.push_column.new.links.items)
    c.args.left.now c.loop-place.place c.index-left-place.result (omega arith) c.index-left-place.is c.loop-place.invariant c.in_ok-push_column.ensures
