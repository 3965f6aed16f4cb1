use Rattle.std.proofs.Common.{◌≡◌, List, [], ◌∷◌, ◌++◌, subst, sym}
use Rattle.std.specs.Prelude.{IsTrue}
use Rattle.std.specs.List.{AllByRecursion}
use Rattle.ss_text.proofs.PlaceLemmas.{each_last}
use Rattle.schema_model.specs.Changes.{is_well_formed}
use Rattle.schema_model.specs.declared.change.Change.{Change}
use Rattle.engine_tests.proofs.building.changes_of.Goals as goal

pub loop-line-preserved : goal.loop-line-preserved
loop-line-preserved c =
    let before : List Change = c.loop-line.changes.items in
    let change : Change = c.in_ok-change.change in
    let pushed : before ++ change ∷ [] ≡ c.push.new.self.items = sym {A = List Change} c.in_ok-push.ensures.items in
    subst (AllByRecursion (λ (g : Change). IsTrue (is_well_formed g))) pushed (each_last (λ (g : Change). IsTrue (is_well_formed g)) before change c.loop-line.invariant c.in_ok-change.ensures)
