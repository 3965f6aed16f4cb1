use Rattle.std.proofs.Common.{List, sym, subst, inr}
use Rattle.ss_text.specs.Texts.{Row}
use Rattle.split_op.specs.Tables.{Fits}
use Rattle.split_op.specs.PartLines.{GivesPart}
use Rattle.split_op.proofs.part.part_lines.Goals as goal

pub inner_lines-requires : goal.inner_lines-requires
inner_lines-requires g c =
    let r = c.requires in
    let kept = rw c.in-Some.is at r.4.keeps in
    (r.0, r.1, r.2, kept.0, r.4.fits)

pub fresh_lines-requires : goal.fresh_lines-requires
fresh_lines-requires g c =
    let r = c.requires in
    let none = rw c.in-None.is at r.4.keeps in
    (r.0, r.2, r.3, subst (λ (rows : List Row). Fits r.0 c.args.group.now.label rows c.args.group.now.moves r.2) none r.4.fits)

pub returns-in-Ok-clause-gives : goal.returns-in-Ok-clause-gives
returns-in-Ok-clause-gives g c = λ shape old new columns f.
    let kept = rw c.in-Some.is at f.keeps in
    c.in-Ok.ensures.gives shape old new kept.0 f.fits

pub returns-in-Err-clause-stops : goal.returns-in-Err-clause-stops
returns-in-Err-clause-stops g c = λ shape old new columns f.
    let kept = rw c.in-Some.is at f.keeps in
    c.in-Err.ensures.stops shape old new kept.0 f.fits

pub returns-in-Ok-fresh_lines-clause-gives : goal.returns-in-Ok-fresh_lines-clause-gives
returns-in-Ok-fresh_lines-clause-gives g c = λ shape old new columns f.
    let none = rw c.in-None.is at f.keeps in
    let own = subst (λ (rows : List Row). Fits shape c.args.group.now.label rows c.args.group.now.moves new) none f.fits in
    subst (λ (rows : List Row). GivesPart shape c.args.group.now.label rows new c.in-Ok-fresh_lines.lines.items) (sym none) (c.in-Ok-fresh_lines.ensures.gives shape new columns own)

pub returns-in-Err-fresh_lines-clause-stops : goal.returns-in-Err-fresh_lines-clause-stops
returns-in-Err-fresh_lines-clause-stops g c = λ shape old new columns f.
    let none = rw c.in-None.is at f.keeps in
    c.in-Err-fresh_lines.ensures.stops shape new columns (subst (λ (rows : List Row). Fits shape c.args.group.now.label rows c.args.group.now.moves new) none f.fits)

pub returns-in-Ok-fresh_lines-clause-cost : goal.returns-in-Ok-fresh_lines-clause-cost
returns-in-Ok-fresh_lines-clause-cost g c = λ n h. c.in-Ok-fresh_lines.ensures.cost n (λ t a. h t (inr a))

pub returns-in-Err-fresh_lines-clause-cost : goal.returns-in-Err-fresh_lines-clause-cost
returns-in-Err-fresh_lines-clause-cost g c = λ n h. c.in-Err-fresh_lines.ensures.cost n (λ t a. h t (inr a))
