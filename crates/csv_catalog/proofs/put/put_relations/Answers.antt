use Rattle.std.proofs.Common.{◌≡◌, ◌∙◌, [], ap, sym, arith}
use Rattle.std.proofs.lemmas.Grind.{common_steps}
use Rattle.std.specs.Vec.Iter.{into_iter_items}
use Rattle.ss_text.specs.Places.{at_place}
use Rattle.schema_model.specs.States.{CatalogueState, settled}
use Rattle.csv_catalog.specs.Put.{with_relations}
use Rattle.csv_catalog.proofs.PutLemmas.{relation_then, takes_first, takes_others, no_relations, settled_as}
use Rattle.csv_catalog.proofs.put.put_relations.Goals as goal

pub put_relation-requires : goal.put_relation-requires
put_relation-requires c =
    takes_first c.loop-relation.catalogue.databases c.args.db c.in-Some.relation (into_iter_items c.next.new.self) (rw c.in-Some.ensures.steps.0 at c.loop-relation.invariant.can)

pub loop-relation-preserved : goal.loop-relation-preserved
loop-relation-preserved c =
    let inv = rw c.in-Some.ensures.steps.0 at c.loop-relation.invariant in
    let rest = into_iter_items c.next.new.self in
    record {
      same = ap (λ (k : CatalogueState). at_place c.args.db (with_relations rest) k.databases) c.in_ok-put_relation.ensures ∙ relation_then c.loop-relation.catalogue.databases c.args.db c.in-Some.relation rest ∙ inv.same;
      settled = settled_as _ _ c.in_ok-put_relation.ensures;
      can = rw c.in_ok-put_relation.ensures (takes_others c.loop-relation.catalogue.databases c.args.db c.in-Some.relation rest inv.can);
    }

pub returns : goal.returns
returns c =
    let left = into_iter_items c.loop-relation.relation-iterator in
    let none : left ≡ [] = grind (arith, common_steps) in
    c.loop-relation.invariant.settled ∙ ap settled (sym (no_relations c.loop-relation.catalogue.databases c.args.db left none) ∙ c.loop-relation.invariant.same)
