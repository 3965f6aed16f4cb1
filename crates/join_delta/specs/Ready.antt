-- What was made ready for a change of a join.
use Rattle.std.specs.Prelude.{◌≡◌, List, [], ◌∷◌, cond, length}
use Rattle.ss_text.specs.Texts.{Row}
use Rattle.row_links.specs.Live.{LinkedRows}
use Rattle.operator_law.specs.Bags.{FitsBag}
use Rattle.operator_law.specs.declared.delta.Signed.{Signed}
use Rattle.join_delta.specs.declared.kept.Waiting.{Waiting}
use Rattle.join_delta.specs.Walks.{rows_of}

-- the rows that come, and those that go, in order
abbrev pub ups_of : List Signed → List Row
ups_of [] = []
ups_of (m ∷ ms) = cond m.up (m.row ∷ ups_of ms) (ups_of ms)

abbrev pub downs_of : List Signed → List Row
downs_of [] = []
downs_of (m ∷ ms) = cond m.up (downs_of ms) (m.row ∷ downs_of ms)

-- the rows that come wait in both sides, those that go are at hand, and the change fits the sides
pub record IsReady (left right : LinkedRows) (w : Waiting) : Type 0 where
  pub left_count : w.left_ups ≡ length left.waiting
  pub left_waits : left.waiting ≡ ups_of w.of.value.0
  pub left_downs_are : w.left_downs.items ≡ downs_of w.of.value.0
  pub left_fits : FitsBag (rows_of left.live) w.of.value.0
  pub right_count : w.right_ups ≡ length right.waiting
  pub right_waits : right.waiting ≡ ups_of w.of.value.1
  pub right_downs_are : w.right_downs.items ≡ downs_of w.of.value.1
  pub right_fits : FitsBag (rows_of right.live) w.of.value.1
