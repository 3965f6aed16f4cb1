-- Rows on shelves, with memory for rows and cells to come.
use Rattle.std.specs.Prelude.{◌<◌, ℕ, Vec}
use Rattle.std.proofs.Common.{Global}
use Rattle.std.specs.List.{AllByRecursion}
use Rattle.std.specs.Vec.{vec_len}
use Rattle.ss_text.specs.Texts.{Text}
use Rattle.row_shelves.specs.Stocks.{Stock, Has}
use Rattle.row_shelves.specs.Shelves.{AreShelves, all_rows}
use Rattle.row_shelves.specs.Blanks.{IsNewShelf, IsNewRow, AreSupplied}

-- each row has room for so many cells, as has each that will come, and there are shelves for these
pub record IsStocked (ss ns : Vec (Vec Stock Global) Global) (cs : Vec (Vec Text Global) Global) (bound : ℕ) : Type 0 where
  pub shelves : AreShelves ss.items
  pub rows : AllByRecursion (Has bound) (all_rows ss.items)
  pub new : AllByRecursion IsNewShelf ns.items
  pub cells : AllByRecursion (IsNewRow bound) cs.items
  pub supply : 0 < vec_len cs → AreSupplied ss ns (vec_len cs)
