use Rattle.std.proofs.Common.{◌≡◌, ◌∙◌, true}
use Rattle.schema_model.specs.Placed.{is_place}
use Rattle.schema_model.specs.RowsKept.{placed_in}
use Rattle.schema_model.proofs.Walks.{walks_on, walk_shortens, goes_there}
use Rattle.schema_model.proofs.held.copies.Goals as goal

pub loop-next-smaller : goal.loop-next-smaller
loop-next-smaller c =
    let ps = placed_in c.args.rows.now in
    let there : is_place c.in-Some.place ps ≡ true = rw c.in-Some.is at c.loop-next.invariant.there in
    rw (c.after-next.ensures, c.in-Some.is) (walk_shortens c.in-Some.place ps c.count.ensures.places there)

pub loop-next-preserved : goal.loop-next-preserved
loop-next-preserved c =
    let ps = placed_in c.args.rows.now in
    let there : is_place c.in-Some.place ps ≡ true = rw c.in-Some.is at c.loop-next.invariant.there in
    let walked = rw c.in-Some.is at c.loop-next.invariant.walked in
    rw (c.after-next.ensures, c.in_ok-push.ensures.items) record {
      walked = walks_on c.in-Some.place ps _ c.in_ok-copy.field-0 c.count.ensures.places there (c.in_ok-copy.ensures ∙ c.row.ensures) walked;
      there = goes_there c.in-Some.place ps;
    }
