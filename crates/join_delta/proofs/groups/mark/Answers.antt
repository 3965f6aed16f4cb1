use Rattle.std.proofs.Common.{◌≡◌, Option, Some, None, fold, slice_get, refl, ap, ◌∙◌, arith}
use Rattle.std.specs.Option.{option_copied}
use Rattle.std.specs.Hash as fed
use Rattle.std.specs.Hash.FoldHasher as folding
use denote.Ref.{Bor}
use Rattle.ss_text.specs.Texts.{Text}
use Rattle.ss_text.specs.Seeds.{start_of}
use Rattle.row_links.specs.Marks.{write_cell}
use Rattle.join_delta.proofs.Crossed.{folded_more}
use Rattle.join_delta.proofs.groups.mark.Goals as goal

-- a borrowed cell is fed as the cell
fed_as : (cell : Option (Bor Text)) → fed.option (λ (r : Bor Text). fed.slice fed.u8 r.now) cell ≡ fed.option (fed.slice fed.u8) (option_copied cell)
fed_as None = refl
fed_as (Some r) = refl

pub loop-position-preserved : goal.loop-position-preserved
loop-position-preserved c =
    folded_more write_cell (slice_get c.args.row.now) (start_of c.args.seed) c.args.key.now c.loop-position.position-index 0 c.loop-position.state c.hash.new.state (omega arith) c.loop-position.invariant
    (c.hash.ensures ∙ ap (fold folding.write c.loop-position.state) (fed_as c.cell.result) ∙ ap (write_cell c.loop-position.state) c.cell.ensures)
