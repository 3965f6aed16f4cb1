use Rattle.std.proofs.Common.{◌≡◌, ◌∙◌, List, Some, ◌⊎◌, ap, sym, subst, map, arith}
use Rattle.std.specs.List.{AllByRecursion}
use Rattle.ss_text.specs.Texts.{text_eq}
use Rattle.indexmap.specs.IndexMap.{get}
use Rattle.unfold_op.specs.FactMoves.{facts_in}
use Rattle.unfold_op.specs.Stopped.{StopsFor}
use Rattle.operator_law.specs.Bags.{weigh}
use Rattle.split_op.specs.LabelLines.{first_conflict, first_illegal_column, first_illegal_table}
use Rattle.split_op.specs.declared.groups.Group.{Group}
use Rattle.split_op.specs.Groups.{group_label}
use Rattle.split_op.specs.Labels.{labels_moved}
use Rattle.split_op.specs.Parts.{FitsParts}
use Rattle.split_op.specs.Judged.{GivesParts}
use Rattle.split_op.proofs.SplitMoves.{fits_parts, gives_all, stops_with, stops_with_table, each_bound, groups_weigh}
use Rattle.split_op.proofs.moved.moved_lines.Goals as goal

pub first_illegal_table-requires : goal.first_illegal_table-requires
first_illegal_table-requires g c =
    let r = c.requires in
    let is = c.deref.ensures.value ∙ c.in_ok-groups.ensures in
    (r.0, c.args.pattern.now, r.1, r.2, subst (λ (gs : List Group). FitsParts g.I.TableOperator.table r.0 c.args.pattern.now (get text_eq c.args.parts.now) gs r.1 r.2) (sym is) (fits_parts g.I.TableOperator.table r.0 c.args.pattern.now (get text_eq c.args.parts.now) c.args.change.now r.1 r.2 r.3))

pub lines_of-requires : goal.lines_of-requires
lines_of-requires g c =
    let r = c.requires in
    let is = c.deref-in-None.ensures.value ∙ c.in_ok-groups.ensures in
    (r.0, r.1, r.2, subst (λ (gs : List Group). FitsParts g.I.TableOperator.table r.0 c.args.pattern.now (get text_eq c.args.parts.now) gs r.1 r.2) (sym is) (fits_parts g.I.TableOperator.table r.0 c.args.pattern.now (get text_eq c.args.parts.now) c.args.change.now r.1 r.2 r.3))

pub returns-in-Some-clause-stops : goal.returns-in-Some-clause-stops
returns-in-Some-clause-stops g c = λ shape old new h.
    let ms = c.args.change.now in
    let is = c.deref.ensures.value ∙ c.in_ok-groups.ensures in
    let fits = subst (λ (gs : List Group). FitsParts g.I.TableOperator.table shape c.args.pattern.now (get text_eq c.args.parts.now) gs old new) (sym is) (fits_parts g.I.TableOperator.table shape c.args.pattern.now (get text_eq c.args.parts.now) ms old new h) in
    let found = sym c.in-Some.is ∙ c.in_ok-label.ensures shape c.args.pattern.now old new fits ∙ ap (λ (gs : List Group). first_illegal_table (facts_in shape new) (map group_label gs)) is in
    stops_with_table g.I.TableOperator.table shape c.args.pattern.now (get text_eq c.args.parts.now) ms old new h c.in-Some.label found

pub returns-in-Ok-clause-gives : goal.returns-in-Ok-clause-gives
returns-in-Ok-clause-gives g c = λ shape old new h.
    let ms = c.args.change.now in
    let is = c.deref.ensures.value ∙ c.in_ok-groups.ensures in
    let same = c.deref-in-None.ensures.value ∙ c.in_ok-groups.ensures in
    let all = fits_parts g.I.TableOperator.table shape c.args.pattern.now (get text_eq c.args.parts.now) ms old new h in
    let fits = subst (λ (gs : List Group). FitsParts g.I.TableOperator.table shape c.args.pattern.now (get text_eq c.args.parts.now) gs old new) (sym is) all in
    let own = subst (λ (gs : List Group). FitsParts g.I.TableOperator.table shape c.args.pattern.now (get text_eq c.args.parts.now) gs old new) (sym same) all in
    let none = sym c.in-None.is ∙ c.in_ok-label.ensures shape c.args.pattern.now old new fits ∙ ap (λ (gs : List Group). first_illegal_table (facts_in shape new) (map group_label gs)) is in
    let gives = subst (λ (gs : List Group). GivesParts shape (map group_label gs) (facts_in shape old) (facts_in shape new) c.in-Ok.lines.items) same (c.in-Ok.ensures.gives shape old new own) in
    gives_all g.I.TableOperator.table shape c.args.pattern.now (get text_eq c.args.parts.now) ms old new h c.in-Ok.lines.items none gives

pub returns-clause-stops : goal.returns-clause-stops
returns-clause-stops g c = λ shape old new h.
    let ms = c.args.change.now in
    let is = c.deref.ensures.value ∙ c.in_ok-groups.ensures in
    let same = c.deref-in-None.ensures.value ∙ c.in_ok-groups.ensures in
    let all = fits_parts g.I.TableOperator.table shape c.args.pattern.now (get text_eq c.args.parts.now) ms old new h in
    let fits = subst (λ (gs : List Group). FitsParts g.I.TableOperator.table shape c.args.pattern.now (get text_eq c.args.parts.now) gs old new) (sym is) all in
    let own = subst (λ (gs : List Group). FitsParts g.I.TableOperator.table shape c.args.pattern.now (get text_eq c.args.parts.now) gs old new) (sym same) all in
    let none = sym c.in-None.is ∙ c.in_ok-label.ensures shape c.args.pattern.now old new fits ∙ ap (λ (gs : List Group). first_illegal_table (facts_in shape new) (map group_label gs)) is in
    let stops = subst (λ (gs : List Group). StopsFor (first_illegal_column shape.constants (facts_in shape new) (map group_label gs)) (first_conflict (facts_in shape new) (map group_label gs)) c.in-Err.stop) same (c.in-Err.ensures.stops shape old new own) in
    stops_with g.I.TableOperator.table shape c.args.pattern.now (get text_eq c.args.parts.now) ms old new h c.in-Err.stop none stops

pub returns-in-Ok-clause-cost : goal.returns-in-Ok-clause-cost
returns-in-Ok-clause-cost g c = λ n h.
    let ms = c.args.change.now in
    let same = c.deref-in-None.ensures.value ∙ c.in_ok-groups.ensures in
    let all = each_bound (λ t. g.I.Operator.is_bound t tt) g.I.Kept.alike c.args.pattern.now (get text_eq c.args.parts.now) ms n h (labels_moved ms) in
    let each = subst (AllByRecursion (λ (d : Group). (t : _) → (get text_eq c.args.parts.now d.label ≡ Some t) ⊎ g.I.Kept.alike c.args.pattern.now t → g.I.Operator.is_bound t tt d.moves (h.steps d.label))) (sym same) all in
    let cost = c.in-Ok.ensures.cost h.steps each in
    let bound = h.all in
    omega (arith, cost, bound, ap (weigh (λ (d : Group). h.steps d.label)) same, groups_weigh (λ t. g.I.Operator.is_bound t tt) g.I.Kept.alike c.args.pattern.now (get text_eq c.args.parts.now) ms n h (labels_moved ms))

pub returns-clause-cost : goal.returns-clause-cost
returns-clause-cost g c = λ n h.
    let ms = c.args.change.now in
    let same = c.deref-in-None.ensures.value ∙ c.in_ok-groups.ensures in
    let all = each_bound (λ t. g.I.Operator.is_bound t tt) g.I.Kept.alike c.args.pattern.now (get text_eq c.args.parts.now) ms n h (labels_moved ms) in
    let each = subst (AllByRecursion (λ (d : Group). (t : _) → (get text_eq c.args.parts.now d.label ≡ Some t) ⊎ g.I.Kept.alike c.args.pattern.now t → g.I.Operator.is_bound t tt d.moves (h.steps d.label))) (sym same) all in
    let cost = c.in-Err.ensures.cost h.steps each in
    let bound = h.all in
    omega (arith, cost, bound, ap (weigh (λ (d : Group). h.steps d.label)) same, groups_weigh (λ t. g.I.Operator.is_bound t tt) g.I.Kept.alike c.args.pattern.now (get text_eq c.args.parts.now) ms n h (labels_moved ms))
