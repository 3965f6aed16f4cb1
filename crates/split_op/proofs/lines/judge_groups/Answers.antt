use Rattle.std.proofs.Common.{◌≡◌, ◌∙◌, ◌+◌, List, Option, Some, ◌⊎◌, ⊎_elim, inl, inr, ap, sym, subst, map, take, drop, arith}
use Rattle.std.proofs.lemmas.List.{take_all}
use Rattle.operator_law.specs.Bags.{weigh}
use Rattle.ss_text.specs.Texts.{Text, text_eq}
use Rattle.ss_text.proofs.PlaceLemmas.{each_at}
use Rattle.indexmap.specs.IndexMap.{get}
use Rattle.unfold_op.specs.FactMoves.{facts_in}
use Rattle.split_op.specs.declared.groups.Group.{Group}
use Rattle.split_op.specs.Groups.{group_label}
use Rattle.split_op.specs.Labels.{rows_of}
use Rattle.split_op.specs.Parts.{FitsPart}
use Rattle.split_op.specs.Judged.{IsJudged}
use Rattle.split_op.proofs.Judging.{stops_all}
use Rattle.split_op.proofs.FirstFound.{fits_at, labels_more, labels_split, weigh_next, weigh_within}
use Rattle.split_op.proofs.lines.judge_groups.Goals as goal

pub judge_group-requires : goal.judge_group-requires
judge_group-requires g c =
    let r = c.requires in
    let item = c.group-item.result in
    let table = g.I.TableOperator.table in
    let f = fits_at table r.0 c.args.pattern.now (get text_eq c.args.parts.now) c.args.groups.now r.1 r.2 c.loop-group.group-index item c.loop-group-test.true c.group-item.is r.3 in
    (r.0, rows_of item.label r.1, rows_of item.label r.2, r.3.columns, subst (λ (o : Option _). FitsPart table r.0 o item (rows_of item.label r.1) (rows_of item.label r.2)) (sym c.get.ensures.value) f)

pub loop-group-preserved : goal.loop-group-preserved
loop-group-preserved g c =
    let item = c.group-item.result in
    let table = g.I.TableOperator.table in
    let groups = c.args.groups.now in
    let k = c.loop-group.group-index in
    record {
      judged = λ shape old new h none.
          let f = fits_at table shape c.args.pattern.now (get text_eq c.args.parts.now) groups old new k item c.loop-group-test.true c.group-item.is h in
          let own = subst (λ (o : Option _). FitsPart table shape o item (rows_of item.label old) (rows_of item.label new)) (sym c.get.ensures.value) f in
          subst (λ (ls : List Text). IsJudged shape ls (facts_in shape old) (facts_in shape new) c.judge_group.new.judged) (sym (labels_more groups k item c.loop-group-test.true c.group-item.is))
          (c.in-Ok.ensures.judged shape (map group_label (take k groups)) old new h.label h.columns own (c.loop-group.invariant.judged shape old new h none));
      cost = λ b all.
          let bound = subst (λ (d : Group). (t : _) → (get text_eq c.args.parts.now d.label ≡ Some t) ⊎ g.I.Kept.alike c.args.pattern.now t → g.I.Operator.is_bound t tt d.moves (b d.label)) (sym c.group-item.is)
          (each_at (λ (d : Group). (t : _) → (get text_eq c.args.parts.now d.label ≡ Some t) ⊎ g.I.Kept.alike c.args.pattern.now t → g.I.Operator.is_bound t tt d.moves (b d.label)) groups k item c.loop-group-test.true all) in
          let here = c.judge_group.ensures.cost (b item.label) (λ t o. bound t (⊎_elim (λ e. inl (sym c.get.ensures.value ∙ e)) (λ a. inr a) o)) in
          let before = c.loop-group.invariant.cost b all in
          omega (arith, here, before, weigh_next (λ (d : Group). b d.label) groups k item c.loop-group-test.true c.group-item.is);
      rises = omega (arith, c.loop-group.invariant.rises, c.judge_group.ensures.rises);
    }

pub returns-in-Err-clause-stops : goal.returns-in-Err-clause-stops
returns-in-Err-clause-stops g c = λ shape old new h none.
    let item = c.group-item.result in
    let table = g.I.TableOperator.table in
    let groups = c.args.groups.now in
    let k = c.loop-group.group-index in
    let f = fits_at table shape c.args.pattern.now (get text_eq c.args.parts.now) groups old new k item c.loop-group-test.true c.group-item.is h in
    let own = subst (λ (o : Option _). FitsPart table shape o item (rows_of item.label old) (rows_of item.label new)) (sym c.get.ensures.value) f in
    let stops = c.in-Err.ensures.stops shape (rows_of item.label old) (rows_of item.label new) h.columns own in
    stops_all shape new (map group_label groups) (map group_label (take k groups)) item.label (map group_label (drop (k + 1) groups)) (labels_split groups k item c.loop-group-test.true c.group-item.is) (c.loop-group.invariant.judged shape old new h none).legal c.in-Err.stop stops

pub returns-in-Err-clause-cost : goal.returns-in-Err-clause-cost
returns-in-Err-clause-cost g c = λ b all.
    let item = c.group-item.result in
    let groups = c.args.groups.now in
    let k = c.loop-group.group-index in
    let bound = subst (λ (d : Group). (t : _) → (get text_eq c.args.parts.now d.label ≡ Some t) ⊎ g.I.Kept.alike c.args.pattern.now t → g.I.Operator.is_bound t tt d.moves (b d.label)) (sym c.group-item.is)
    (each_at (λ (d : Group). (t : _) → (get text_eq c.args.parts.now d.label ≡ Some t) ⊎ g.I.Kept.alike c.args.pattern.now t → g.I.Operator.is_bound t tt d.moves (b d.label)) groups k item c.loop-group-test.true all) in
    let here = c.judge_group.ensures.cost (b item.label) (λ t o. bound t (⊎_elim (λ e. inl (sym c.get.ensures.value ∙ e)) (λ a. inr a) o)) in
    let before = c.loop-group.invariant.cost b all in
    omega (arith, here, before, weigh_within (λ (d : Group). b d.label) groups k item c.loop-group-test.true c.group-item.is)

pub returns-clause-judged : goal.returns-clause-judged
returns-clause-judged g c = λ shape old new h none.
    let all = take_all c.loop-group.group-index c.args.groups.now c.loop-group-test.false in
    subst (λ (gs : List Group). IsJudged shape (map group_label gs) (facts_in shape old) (facts_in shape new) c.loop-group.judged) all (c.loop-group.invariant.judged shape old new h none)

pub returns-clause-cost : goal.returns-clause-cost
returns-clause-cost g c = λ b all.
    let whole = take_all c.loop-group.group-index c.args.groups.now c.loop-group-test.false in
    let within = c.loop-group.invariant.cost b all in
    omega (arith, within, ap (weigh (λ (d : Group). b d.label)) whole)
