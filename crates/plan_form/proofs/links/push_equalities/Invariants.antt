use Rattle.std.proofs.Common.{◌≡◌, ◌++◌, take, map}
use Rattle.std.specs.List.{filter_map, flat_map}
use Rattle.view_def.specs.Conditions.{condition_of}
use Rattle.view_def.specs.Query.{query_of}
use Rattle.plan_law.specs.Links.{equality_link}
use Rattle.plan_law.specs.Columns.{sides_of}
use Rattle.plan_form.specs.Sources.{seen_link}
use Rattle.plan_form.proofs.links.push_equalities.Given as goal

abbrev pub invariant-loop-member : goal.invariant-loop-member
invariant-loop-member l = map seen_link l.links.items ≡ map seen_link l.fn.links.items ++ filter_map (equality_link (query_of l.view) l.left l.right) (flat_map sides_of (map condition_of (take l.member-index l.member-items)))
