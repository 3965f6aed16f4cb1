use Rattle.std.proofs.Common.{◌≡◌, true}
use Rattle.std.proofs.lemmas.List.{map_push}
use Rattle.schema_model.specs.Placed.{is_place}
use Rattle.schema_model.proofs.Walks.{walks_on, walk_shortens, goes_there}
use Rattle.schema_model.proofs.relation.Relation.rows.Goals as goal

pub loop-next-smaller : goal.loop-next-smaller
loop-next-smaller c =
    let ps = c.args.self.now.placed in
    let there : is_place c.in-Some.place ps ≡ true = rw c.in-Some.is at c.loop-next.invariant.there in
    rw (c.after-next.ensures, c.in-Some.is) (walk_shortens c.in-Some.place ps c.count.ensures.places there)

pub loop-next-preserved : goal.loop-next-preserved
loop-next-preserved c =
    let ps = c.args.self.now.placed in
    let there : is_place c.in-Some.place ps ≡ true = rw c.in-Some.is at c.loop-next.invariant.there in
    let walked = rw c.in-Some.is at c.loop-next.invariant.walked in
    rw (c.after-next.ensures, c.in_ok-push.ensures.items, map_push) record {
      walked = walks_on c.in-Some.place ps _ c.row.result.now c.count.ensures.places there c.row.ensures.row walked;
      there = goes_there c.in-Some.place ps;
    }
