use Rattle.std.proofs.Common.{◌∙◌, ap, sym, subst, take, map, List}
use Rattle.std.specs.List.Sorted.{IsStrictlySortedBy}
use Rattle.ss_text.specs.Texts.{text_cmp, text_eq}
use Rattle.ss_text.specs.Places.{changed_where}
use Rattle.split_op.specs.declared.groups.Group.{Group}
use Rattle.split_op.specs.Labels.{label_in, labels_moved}
use Rattle.split_op.specs.Groups.{group_label, with_move}
use Rattle.split_op.proofs.Grouped.{next_move, groups_ascend}
use Rattle.split_op.proofs.groups.groups_of.Goals as goal

pub add_move-requires-clause-ascend : goal.add_move-requires-clause-ascend
add_move-requires-clause-ascend c = subst (λ (gs : List Group). IsStrictlySortedBy text_cmp (map group_label gs)) (sym c.loop-m.invariant) (groups_ascend (take c.loop-m.m-index c.deref-m-items.result.now) c.args.change.now)

pub loop-m-preserved : goal.loop-m-preserved
loop-m-preserved c =
    let m = c.m-item.result in
    c.in_ok-add_move.ensures
    ∙ ap (changed_where (λ (g : Group). text_eq (label_in m.row) g.label) (with_move m)) c.loop-m.invariant
    ∙ next_move c.deref-m-items.result.now (labels_moved c.args.change.now) c.loop-m.m-index m c.loop-m-test.true c.m-item.is
