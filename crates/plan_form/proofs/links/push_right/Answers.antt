use Rattle.std.proofs.Common.{map, arith}
use Rattle.view_def.specs.Query.{query_of}
use Rattle.plan_law.specs.Links.{Right}
use Rattle.plan_form.specs.Sources.{seen_link}
use Rattle.plan_form.proofs.Steps.{column_turn}
use Rattle.plan_form.proofs.links.push_right.Goals as goal

pub loop-place-preserved : goal.loop-place-preserved
loop-place-preserved c =
    column_turn (query_of c.args.view.now) c.args.left.now c.args.right.now Right (map seen_link c.args.links.now.items) (map seen_link c.loop-place.links.items) (map seen_link c.push_column.new.links.items)
    c.args.right.now c.loop-place.place c.index-right-place.result (omega arith) c.index-right-place.is c.loop-place.invariant c.in_ok-push_column.ensures
