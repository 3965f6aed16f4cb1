use Rattle.std.proofs.Common.{◌≡◌, ◌≤◌, ℕ, Option, None, length}
use Rattle.slab.specs.Slab.{slab_len}
use Rattle.row_links.specs.Links.{IsPath, first_or}
use Rattle.row_links.specs.Chained.{Placed, places}
use Rattle.row_links.specs.Parts.{whole, same_cells}
use Rattle.row_links.specs.Live.{AreStored}
use Rattle.row_links.proofs.Sought.{IsCountedDown}
use Rattle.row_links.proofs.seek.has_more.Given as goal

abbrev pub invariant-loop-turn : goal.invariant-loop-turn
invariant-loop-turn l =
    (l._turn-end ≡ slab_len l.rows)
    × ((mark : ℕ) (before : Option ℕ) (es : Placed) → IsPath l.links.items mark before (places es) None → l.initial.at ≡ first_or (places es) None → AreStored l.rows es → length es ≤ slab_len l.rows →
    IsCountedDown l.links.items l.rows mark (λ row. same_cells (whole row) (whole l.sought)) es l.count l.at l._turn l.left)
