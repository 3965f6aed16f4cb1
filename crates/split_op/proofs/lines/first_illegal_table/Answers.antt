use Rattle.std.proofs.Common.{◌∙◌, ◌+◌, List, Option, Bool, Some, None, option_map, ap, sym, subst, map, take, drop}
use Rattle.std.specs.Prelude.{not, ◌&&◌}
use Rattle.std.specs.List.{list_any, find}
use Rattle.std.proofs.lemmas.List.{take_all}
use Rattle.ss_text.specs.Texts.{Text, text_eq}
use Rattle.ss_text.specs.Label.{is_table_label}
use Rattle.indexmap.specs.IndexMap.{get}
use Rattle.flow_law.specs.declared.refused.IllegalLabel.{IllegalLabel}
use Rattle.flow_law.specs.Facts.{Fact}
use Rattle.unfold_op.specs.FactMoves.{facts_in}
use Rattle.split_op.specs.declared.groups.Group.{Group}
use Rattle.split_op.specs.Groups.{group_label}
use Rattle.split_op.specs.Labels.{rows_of}
use Rattle.split_op.specs.Parts.{FitsPart}
use Rattle.split_op.proofs.LabelFacts.{any_row}
use Rattle.split_op.proofs.FirstFound.{fits_at, found_next, none_next, labels_more, labels_split}
use Rattle.split_op.proofs.lines.first_illegal_table.Goals as goal

pub is_illegal-requires : goal.is_illegal-requires
is_illegal-requires g c =
    let r = c.requires in
    let item = c.group-item.result in
    let table = g.I.TableOperator.table in
    let f = fits_at table r.0 r.1 (get text_eq c.args.parts.now) c.args.groups.now r.2 r.3 c.loop-group.group-index item c.loop-group-test.true c.group-item.is r.4 in
    (r.0, rows_of item.label r.2, rows_of item.label r.3, subst (λ (o : Option _). FitsPart table r.0 o item (rows_of item.label r.2) (rows_of item.label r.3)) (sym c.get.ensures.value) f)

pub loop-group-preserved : goal.loop-group-preserved
loop-group-preserved g c = λ shape pattern old new h.
    let item = c.group-item.result in
    let table = g.I.TableOperator.table in
    let groups = c.args.groups.now in
    let k = c.loop-group.group-index in
    let bad : Text → Bool = λ label. list_any (λ (f : Fact). text_eq label f.label) (facts_in shape new) && not (is_table_label label) in
    let f = fits_at table shape pattern (get text_eq c.args.parts.now) groups old new k item c.loop-group-test.true c.group-item.is h in
    let own = subst (λ (o : Option _). FitsPart table shape o item (rows_of item.label old) (rows_of item.label new)) (sym c.get.ensures.value) f in
    let here = ap (λ (b : Bool). b && not (is_table_label item.label)) (any_row shape item.label new) ∙ sym (c.is_illegal.ensures shape (rows_of item.label old) (rows_of item.label new) own) ∙ c.if-is_illegal.false in
    ap (find bad) (labels_more groups k item c.loop-group-test.true c.group-item.is) ∙ none_next bad (map group_label (take k groups)) item.label (c.loop-group.invariant shape pattern old new h) here

pub returns-then-is_illegal : goal.returns-then-is_illegal
returns-then-is_illegal g c = λ shape pattern old new h.
    let item = c.group-item.result in
    let table = g.I.TableOperator.table in
    let groups = c.args.groups.now in
    let k = c.loop-group.group-index in
    let bad : Text → Bool = λ label. list_any (λ (f : Fact). text_eq label f.label) (facts_in shape new) && not (is_table_label label) in
    let named : Text → IllegalLabel = λ label. record { table = label; column = None } in
    let f = fits_at table shape pattern (get text_eq c.args.parts.now) groups old new k item c.loop-group-test.true c.group-item.is h in
    let own = subst (λ (o : Option _). FitsPart table shape o item (rows_of item.label old) (rows_of item.label new)) (sym c.get.ensures.value) f in
    let here = ap (λ (b : Bool). b && not (is_table_label item.label)) (any_row shape item.label new) ∙ sym (c.is_illegal.ensures shape (rows_of item.label old) (rows_of item.label new) own) ∙ c.if-is_illegal.true in
    let found = ap (find bad) (labels_split groups k item c.loop-group-test.true c.group-item.is) ∙ found_next bad (map group_label (take k groups)) item.label (map group_label (drop (k + 1) groups)) (c.loop-group.invariant shape pattern old new h) here in
    ap (λ (t : Text). Some (named t)) c.in_ok-copy.ensures ∙ sym (ap (option_map named) found)

pub returns : goal.returns
returns g c = λ shape pattern old new h.
    let groups = c.args.groups.now in
    let bad : Text → Bool = λ label. list_any (λ (f : Fact). text_eq label f.label) (facts_in shape new) && not (is_table_label label) in
    let named : Text → IllegalLabel = λ label. record { table = label; column = None } in
    let all = take_all c.loop-group.group-index groups c.loop-group-test.false in
    ap (option_map named) (sym (ap (λ (gs : List Group). find bad (map group_label gs)) (sym all) ∙ c.loop-group.invariant shape pattern old new h))
