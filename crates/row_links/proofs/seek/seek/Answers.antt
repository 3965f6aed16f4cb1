use Rattle.std.proofs.Common.{◌+◌, ℕ, Option, Bool, sym, ◌∙◌, subst}
use Rattle.ss_text.specs.Texts.{Row}
use Rattle.row_links.specs.Parts.{picked, same_cells}
use Rattle.row_links.proofs.Sought.{IsLeft, ended, found, passed}
use Rattle.row_links.proofs.seek.seek.Goals as goal

pub returns-in-None : goal.returns-in-None
returns-in-None c = λ mark before es path at stored few.
    let test : Row → Bool = λ row. same_cells (picked c.args.part row) (picked c.args.sought_part c.args.sought.now) in
    let left = c.loop-turn.invariant.1 mark before es path at stored few in
    ended _ _ mark test es c.loop-turn._turn (subst (λ (o : Option ℕ). IsLeft c.args.links.now.items c.args.rows.now mark test es o c.loop-turn._turn) c.in-None.is left)

pub returns-then-fits : goal.returns-then-fits
returns-then-fits c = λ mark before es path at stored few.
    let test : Row → Bool = λ row. same_cells (picked c.args.part row) (picked c.args.sought_part c.args.sought.now) in
    let left = c.loop-turn.invariant.1 mark before es path at stored few in
    found c.args.links.now.items c.args.rows.now mark test es c.in-Some.place c.loop-turn._turn (λ row h. sym (c.fits.ensures row h) ∙ c.if-fits.true) (subst (λ (o : Option ℕ). IsLeft c.args.links.now.items c.args.rows.now mark test es o c.loop-turn._turn) c.in-Some.is left)

pub loop-turn-preserved : goal.loop-turn-preserved
loop-turn-preserved c = (
  c.loop-turn.invariant.0,
  λ mark before es path at stored few.
      let test : Row → Bool = λ row. same_cells (picked c.args.part row) (picked c.args.sought_part c.args.sought.now) in
      let left = c.loop-turn.invariant.1 mark before es path at stored few in
      let next = passed c.args.links.now.items c.args.rows.now mark test es c.in-Some.place c.loop-turn._turn (λ row h. sym (c.fits.ensures row h) ∙ c.if-fits.false) (subst (λ (o : Option ℕ). IsLeft c.args.links.now.items c.args.rows.now mark test es o c.loop-turn._turn) c.in-Some.is left) in
      subst (λ (o : Option ℕ). IsLeft c.args.links.now.items c.args.rows.now mark test es o (c.loop-turn._turn + 1)) (sym c.after-at.ensures) next,
)
