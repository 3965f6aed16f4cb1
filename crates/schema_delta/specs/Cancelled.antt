-- Rows of which none is among others.
use Rattle.std.specs.Prelude.{◌≡◌, ◌<◌, List}
use Rattle.ss_text.specs.Texts.{Row}
use Rattle.operator_law.specs.Bags.{weigh, is}

abbrev pub Apart : List Row → List Row → Type 0
Apart xs ys = (r : Row) → 0 < weigh (is r) xs → weigh (is r) ys ≡ 0
