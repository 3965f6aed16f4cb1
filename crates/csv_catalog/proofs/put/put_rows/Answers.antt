use Rattle.std.proofs.Common.{◌≡◌, ◌∙◌, [], ap, sym, arith}
use Rattle.std.proofs.lemmas.Grind.{common_steps}
use Rattle.std.specs.Vec.Iter.{into_iter_items}
use Rattle.ss_text.specs.Places.{at_place}
use Rattle.schema_model.specs.Catalogue.{with_relation_at, with_rows}
use Rattle.schema_model.specs.States.{CatalogueState, settled}
use Rattle.csv_catalog.proofs.PutLemmas.{row_then, takes_rest, no_rows, settled_as}
use Rattle.csv_catalog.proofs.put.put_rows.Goals as goal

pub loop-row-preserved : goal.loop-row-preserved
loop-row-preserved c =
    let inv = rw c.in-Some.ensures.steps.0 at c.loop-row.invariant in
    let rest = into_iter_items c.next.new.self in
    record {
      same = ap (λ (k : CatalogueState). at_place c.args.db (with_relation_at c.args.rel (with_rows rest)) k.databases) c.in_ok-put_row.ensures.ok ∙ row_then c.loop-row.catalogue.databases c.args.db c.args.rel c.in-Some.row rest ∙ inv.same;
      settled = settled_as _ _ c.in_ok-put_row.ensures.ok;
      can = rw c.in_ok-put_row.ensures.ok (takes_rest c.loop-row.catalogue.databases c.args.db c.args.rel c.in-Some.row rest inv.can);
    }

pub returns : goal.returns
returns c =
    let left = into_iter_items c.loop-row.row-iterator in
    let none : left ≡ [] = grind (arith, common_steps) in
    c.loop-row.invariant.settled ∙ ap settled (sym (no_rows c.loop-row.catalogue.databases c.args.db c.args.rel left none) ∙ c.loop-row.invariant.same)
