-- Sources of texts and their links, as the law of plans speaks of them.
use Rattle.plan_law.specs.Links.{Source, Link}
use Rattle.plan_law.specs.Links as link
use Rattle.plan_form.specs.declared.source.Source.{Source as Held}
use Rattle.plan_form.specs.declared.source.Source.TheVariants as held

abbrev pub seen : Held → Source
seen (held.Given t) = link.Given t
seen (held.Left i) = link.Left i
seen (held.Right j) = link.Right j

abbrev pub seen_link : Held × Held → Link
seen_link l = (seen l.0, seen l.1)
