use Rattle.std.proofs.Common.{◌++◌, refl, ap, ◌∙◌, arith}
use Rattle.row_links.specs.Parts.{cells_at}
use Rattle.row_links.specs.Marks.{mark_of}
use Rattle.join_delta.specs.Partners.{crossed_with}
use Rattle.join_delta.specs.Groups.{group_in}
use Rattle.join_delta.proofs.Sides.{flat_more}
use Rattle.join_delta.proofs.Crossed.{grouped}
use Rattle.join_delta.proofs.products.add_with_many.Goals as goal

pub loop-m-preserved : goal.loop-m-preserved
loop-m-preserved c =
    let m = c.m-item.result in
    let number = mark_of c.args.seed (cells_at c.args.side.key.now m.row) in
    let group = group_in c.in_ok-groups.groups number in
    let all = grouped c.args.seed c.args.many_first c.args.many.key.now c.args.side.key.now c.args.many.moves.now group m number refl (c.in_ok-groups.ensures number) in
    flat_more (crossed_with c.args.many_first c.args.many.key.now c.args.side.key.now c.args.many.moves.now) c.args.side.moves.now c.loop-m.m-index m
    c.args.out.now.items c.loop-m.out.items c.add_grouped.new.out.items (omega arith) c.m-item.is c.loop-m.invariant
    (c.in_ok-add_grouped.ensures ∙ ap (λ ms. c.loop-m.out.items ++ ms) all)
