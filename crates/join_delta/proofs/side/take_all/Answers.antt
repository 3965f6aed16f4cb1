use Rattle.std.proofs.Common.{◌≡◌, ◌+◌, ℕ, List, length, get_or, take, sym, ap, ◌∙◌, arith}
use Rattle.row_links.specs.Live.{LinkedRows, without_first}
use Rattle.operator_law.specs.Bags.{weigh}
use Rattle.join_delta.specs.Walks.{rows_of}
use Rattle.join_delta.proofs.Moved.{takes_more}
use Rattle.join_delta.proofs.side.take_all.Goals as goal

pub loop-row-preserved : goal.loop-row-preserved
loop-row-preserved c =
    let items = c.deref-row-items.ensures.value in
    let at : c.row-item.result ≡ get_or c.args.downs.now.items c.loop-row.row-index c.row-item.result = c.row-item.is ∙ ap (λ (rs : List (List (List ℕ))). get_or rs c.loop-row.row-index c.row-item.result) items in
    let left : c.take_first.new.self.live ≡ without_first c.row-item.result c.loop-row.kept.live = ap (λ (v : LinkedRows). v.live) c.take_first.ensures.taken in (
      λ f. takes_more c.args.downs.now.items c.loop-row.row-index c.row-item.result c.args.kept.now.live c.loop-row.kept.live (omega (arith, ap length items)) at c.requires c.loop-row.invariant.0 f
          ∙ ap (λ es. weigh f (rows_of es) + weigh f (take (c.loop-row.row-index + 1) c.args.downs.now.items)) (sym left),
      ap (λ (v : LinkedRows). v.keys) c.take_first.ensures.taken ∙ c.loop-row.invariant.1,
      ap (λ (v : LinkedRows). v.waiting) c.take_first.ensures.taken ∙ c.loop-row.invariant.2,
    )
