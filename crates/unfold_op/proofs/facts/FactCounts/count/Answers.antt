use Rattle.std.proofs.Common.{Option, refl, sym, subst, ◌∷◌}
use Rattle.ss_text.specs.Texts.{Text}
use Rattle.flow_law.specs.Facts.{Fact}
use Rattle.unfold_op.specs.declared.facts.FactCounts.{FactCounts}
use Rattle.unfold_op.specs.Moves.{CanCount, Stands}
use Rattle.unfold_op.proofs.Counting.{few_keys, stands_plain}
use Rattle.unfold_op.proofs.facts.FactCounts.count.Goals as goal

pub count_owned-requires : goal.count_owned-requires
count_owned-requires c =
    let r = c.requires in
    let f : Fact = record { label = r.0; key = c.args.key; cell = c.args.cell } in
    few_keys c.args.self.now f r.1 r.2 c.args.key

pub returns-in_ok-count_owned-in-None : goal.returns-in_ok-count_owned-in-None
returns-in_ok-count_owned-in-None c = λ label fs h.
    let k = c.args.self.now in
    let after : FactCounts = record { keys = c.count_owned.new.counts; columns = k.columns; cells = k.cells } in
    let plain = subst (λ (o : Option (Text × Text)). let f : Fact = record { label = label; key = c.args.key; cell = o } in CanCount k f fs) c.in-None.is h in
    subst (λ (o : Option (Text × Text)). let f : Fact = record { label = label; key = c.args.key; cell = o } in Stands after (f ∷ fs)) (sym c.in-None.is)
    (stands_plain k after label c.args.key fs c.in_ok-count_owned-in-None.ensures refl refl plain)
