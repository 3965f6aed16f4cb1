use Rattle.std.proofs.Common.{rules, ◌<◌, length}
use Rattle.schema_model.proofs.NumberedLemmas.{after_numbered, place_numbered}
use Rattle.schema_model.proofs.listed.Listed.after.Goals as goal

pub overflow_add-place : goal.overflow_add-place
overflow_add-place c =
    let lt : c.args.place < length c.self.inside.rows.items = place_numbered c.args.place c.self.inside.rows.items (rw (← c.self.view_is) at c.requires) in
    search (rules, lt)

pub returns-then-place-count : goal.returns-then-place-count
returns-then-place-count c =
    let lt = place_numbered c.args.place c.self.inside.rows.items (rw (← c.self.view_is) at c.requires) in
    rw (← c.self.view_is, after_numbered c.args.place c.self.inside.rows.items lt) (search rules)

pub returns-else-place-count : goal.returns-else-place-count
returns-else-place-count c =
    let lt = place_numbered c.args.place c.self.inside.rows.items (rw (← c.self.view_is) at c.requires) in
    rw (← c.self.view_is, after_numbered c.args.place c.self.inside.rows.items lt) (search rules)
