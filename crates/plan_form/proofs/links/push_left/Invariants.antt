use Rattle.std.proofs.Common.{◌≡◌, ◌++◌, take, map}
use Rattle.std.specs.List.{filter_map}
use Rattle.view_def.specs.Query.{query_of}
use Rattle.plan_law.specs.Links.{Left, places_from, column_link}
use Rattle.plan_form.specs.Sources.{seen_link}
use Rattle.plan_form.proofs.links.push_left.Given as goal

abbrev pub invariant-loop-place : goal.invariant-loop-place
invariant-loop-place l = map seen_link l.links.items ≡ map seen_link l.fn.links.items ++ filter_map (column_link (query_of l.view) l.left l.right) (places_from Left 0 (take l.place l.left))
