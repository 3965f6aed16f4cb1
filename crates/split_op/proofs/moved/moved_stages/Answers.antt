use Rattle.std.proofs.Common.{◌∙◌, List, sym, subst, map}
use Rattle.std.specs.List.Sorted.{IsStrictlySortedBy}
use Rattle.ss_text.specs.Texts.{text_eq, text_cmp}
use Rattle.indexmap.specs.IndexMap.{get}
use Rattle.split_op.specs.declared.groups.Group.{Group}
use Rattle.split_op.specs.Groups.{group_label}
use Rattle.split_op.specs.Stages.{CanReserve}
use Rattle.split_op.proofs.Grouped.{groups_ascend}
use Rattle.split_op.proofs.SplitMoves.{fits_parts, can_keep_label}
use Rattle.split_op.proofs.moved.moved_stages.Goals as goal

pub reserve_stages-requires-clause-ascend : goal.reserve_stages-requires-clause-ascend
reserve_stages-requires-clause-ascend g c = subst (λ (gs : List Group). IsStrictlySortedBy text_cmp (map group_label gs)) (sym (c.deref.ensures.value ∙ c.in_ok-groups.ensures)) (groups_ascend c.args.change.now c.args.change.now)

pub reserve_stages-requires-clause-fits : goal.reserve_stages-requires-clause-fits
reserve_stages-requires-clause-fits g c =
    let r = c.requires in
    let at = get text_eq c.args.parts.now in (
      r.0,
      r.1,
      r.2,
      subst (λ (gs : List Group). CanReserve g.I.TableOperator.table r.0 c.args.pattern.now (get text_eq c.args.parts.now) gs r.1 r.2) (sym (c.deref.ensures.value ∙ c.in_ok-groups.ensures))
          (record { fits = fits_parts g.I.TableOperator.table r.0 c.args.pattern.now (get text_eq c.args.parts.now) c.args.change.now r.1 r.2 r.3; can = can_keep_label r.0 r.2 r.4 }),
    )
