use Rattle.std.proofs.Common.{◌≡◌, take, map, filter}
use Rattle.plan_law.specs.Links.{is_own}
use Rattle.plan_form.specs.Sources.{seen_link}
use Rattle.plan_form.specs.Bases.{own_cells}
use Rattle.plan_form.proofs.links.own_tests.Given as goal

abbrev pub invariant-loop-link : goal.invariant-loop-link
invariant-loop-link l = l.tests.items ≡ map own_cells (filter is_own (map seen_link (take l.link-index l.links)))
