use Rattle.std.proofs.Common.{◌≡◌, ◌∙◌, ap, arith, length, map, take, ℕ}
use Rattle.std.proofs.Math.Seq.{take-length}
use Rattle.schema_model.specs.States.{DatabaseState}
use Rattle.view_meaning.specs.Elements.{A_text}
use Rattle.valuation_meaning.proofs.ElementLemmas.{database_names}
use Rattle.valuation_meaning.proofs.ranges.databases.Goals as goal

pub returns : goal.returns
returns c =
    let all = c.args.databases.now in
    let end : c.loop-database.database-index ≡ length all = omega (arith, c.loop-database-test.false, c.loop-database.auto.database-index-end) in
    let names = λ (d : DatabaseState). A_text d.name in
    c.loop-database.invariant ∙ ap (λ (n : ℕ). map names (take n all)) end ∙ ap (map names) (take-length all) ∙ database_names all
