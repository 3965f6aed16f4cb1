use Rattle.std.proofs.Common.{◌<◌, ℕ, Option, Bool, true, false, sym, ◌∙◌, subst, arith}
use Rattle.ss_text.specs.Texts.{Row}
use Rattle.row_links.specs.Parts.{whole, same_cells}
use Rattle.row_links.proofs.Sought.{IsCountedDown, count_ended, count_told, count_passed}
use Rattle.row_links.proofs.seek.has_more.Goals as goal
use Rattle.row_links.proofs.seek.has_more.Goals.{then-fits+else-left-eq0, else-fits}

pub returns-in-None : goal.returns-in-None
returns-in-None c = λ mark before es path at stored few.
    let test : Row → Bool = λ row. same_cells (whole row) (whole c.args.sought.now) in
    count_ended c.args.links.now.items c.args.rows.now mark test es c.args.count c.loop-turn._turn c.loop-turn.left
    (subst (λ (o : Option ℕ). IsCountedDown c.args.links.now.items c.args.rows.now mark test es c.args.count o c.loop-turn._turn c.loop-turn.left) c.in-None.is (c.loop-turn.invariant.1 mark before es path at stored few))

pub returns-then-left-eq0 : goal.returns-then-left-eq0
returns-then-left-eq0 c = λ mark before es path at stored few.
    let test : Row → Bool = λ row. same_cells (whole row) (whole c.args.sought.now) in
    count_told c.args.links.now.items c.args.rows.now mark test es c.args.count c.in-Some.place c.loop-turn._turn c.loop-turn.left
    (subst (λ (o : Option ℕ). IsCountedDown c.args.links.now.items c.args.rows.now mark test es c.args.count o c.loop-turn._turn c.loop-turn.left) c.in-Some.is (c.loop-turn.invariant.1 mark before es path at stored few))
    (λ row h. sym (c.fits.ensures row h) ∙ c.if-fits.true) c.if-left-eq0.true

pub loop-turn-preserved : goal.loop-turn-preserved
loop-turn-preserved c =
    let test : Row → Bool = λ row. same_cells (whole row) (whole c.args.sought.now) in
    elim c.if-fits.branch [
      | then-fits+else-left-eq0 w ↦ (
        c.loop-turn.invariant.0,
        λ mark before es path at stored few.
            let left = c.loop-turn.invariant.1 mark before es path at stored few in
            let some : 0 < c.loop-turn.left = omega (arith, w.if-left-eq0.false) in
            let next = count_passed c.args.links.now.items c.args.rows.now mark test es c.args.count c.in-Some.place c.loop-turn._turn c.loop-turn.left
            (subst (λ (o : Option ℕ). IsCountedDown c.args.links.now.items c.args.rows.now mark test es c.args.count o c.loop-turn._turn c.loop-turn.left) c.in-Some.is left)
            true (λ row h. sym (c.fits.ensures row h) ∙ w.if-fits.true) (λ _. some) in
            rw (c.after-at.ensures, w.left-is) next,
      )
      | else-fits w ↦ (
        c.loop-turn.invariant.0,
        λ mark before es path at stored few.
            let left = c.loop-turn.invariant.1 mark before es path at stored few in
            let next = count_passed c.args.links.now.items c.args.rows.now mark test es c.args.count c.in-Some.place c.loop-turn._turn c.loop-turn.left
            (subst (λ (o : Option ℕ). IsCountedDown c.args.links.now.items c.args.rows.now mark test es c.args.count o c.loop-turn._turn c.loop-turn.left) c.in-Some.is left)
            false (λ row h. sym (c.fits.ensures row h) ∙ w.if-fits.false) (λ e. absurd (cc)) in
            rw (c.after-at.ensures, w.left-is) next,
      )
    ]
