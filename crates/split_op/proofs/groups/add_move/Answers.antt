use Rattle.std.proofs.Common.{rules, ◌≡◌, ◌∙◌, ap, sym, subst, Ok, Err, List, slice_set, slice_index_or, map}
use Rattle.std.proofs.lemmas.Fn.{always_returns_same}
use Rattle.std.specs.List.Sorted.{IsStrictlySortedBy}
use Rattle.ss_text.specs.Texts.{text_cmp, text_eq}
use Rattle.ss_text.specs.Places.{changed_where}
use Rattle.ss_text.proofs.KeyLemmas.{searched, changed_at, lacks_changed, lacks_for, text_order}
use Rattle.ss_text.proofs.PlaceLemmas.{put_back}
use Rattle.operator_law.specs.declared.delta.Signed.{Signed}
use Rattle.split_op.specs.declared.groups.Group.{Group}
use Rattle.split_op.specs.Labels.{label_in}
use Rattle.split_op.specs.Groups.{group_label, with_move}
use Rattle.split_op.proofs.groups.add_move.Goals as goal

pub returns-in_ok-push : goal.returns-in_ok-push
returns-in_ok-push c =
    let label = label_in c.args.m.now.row in
    let gs = c.deref.result.now in
    let is : gs ≡ c.args.groups.now.items = c.deref.ensures.value in
    let ascend = subst (λ (xs : List Group). IsStrictlySortedBy text_cmp (map group_label xs)) (sym is) c.requires.ascend in
    let by_label = c.in-Ok.ensures.position (λ (g : Group). text_cmp g.label label) (always_returns_same _ _ _ (λ a r g called. search rules)) in
    let at = (searched text_order group_label label gs (Ok c.in-Ok.at) ascend c.in-Ok.ensures.bound by_label).found in
    let group = c.index_mut.result.now in
    let new : Group = record { label = c.push.inside.0.0; moves = c.push-in-Ok.new.self.items } in
    let items = rw c.in_ok-copy.ensures at c.in_ok-push.ensures.items in
    let moved : new ≡ with_move c.args.m.now group = ap (λ (ns : List Signed). record { label = c.push.inside.0.0; moves = ns }) items ∙ ap (with_move c.args.m.now) c.push.view_is in
    subst (λ (xs : List Group). slice_set xs c.in-Ok.at new ≡ changed_where (λ (g : Group). text_eq label g.label) (with_move c.args.m.now) xs) is
    (put_back gs c.in-Ok.at group new (with_move c.args.m.now) c.in-Ok.ensures.bound (c.index_mut.ensures.value ∙ ap (λ (xs : List Group). slice_index_or xs c.in-Ok.at group) (sym is)) moved
    ∙ sym (changed_at text_order group_label label (with_move c.args.m.now) gs c.in-Ok.at ascend at))

pub returns-in_default : goal.returns-in_default
returns-in_default c =
    let label = label_in c.args.m.now.row in
    let gs = c.deref.result.now in
    let is : gs ≡ c.args.groups.now.items = c.deref.ensures.value in
    let ascend = subst (λ (xs : List Group). IsStrictlySortedBy text_cmp (map group_label xs)) (sym is) c.requires.ascend in
    let by_label = c.in_default.ensures.position (λ (g : Group). text_cmp g.label label) (always_returns_same _ _ _ (λ a r g called. search rules)) in
    let gap = (searched text_order group_label label gs (Err c.in_default.field-0) ascend c.in_default.ensures.bound by_label).absent in
    sym is ∙ sym (lacks_changed text_order group_label label (with_move c.args.m.now) gs (lacks_for text_order group_label label gs c.in_default.field-0 gap)) ∙ ap (λ (xs : List Group). changed_where (λ (g : Group). text_eq label g.label) (with_move c.args.m.now) xs) is
