use Rattle.std.proofs.Common.{rules, ◌<◌, ◌∙◌, sym, length, []}
use Rattle.std.proofs.lemmas.List.{get_or_read}
use Rattle.schema_model.proofs.NumberedLemmas.{place_numbered, row_there}
use Rattle.schema_model.proofs.listed.Listed.row.Goals as goal

pub index-requires : goal.index-requires
index-requires c =
    let lt : c.args.place < length c.self.inside.rows.items = place_numbered c.args.place c.self.inside.rows.items (rw (← c.self.view_is) at c.requires) in
    search (rules, lt)

pub returns : goal.returns
returns c =
    let rows = c.self.inside.rows.items in
    let lt : c.args.place < length rows = place_numbered c.args.place rows (rw (← c.self.view_is) at c.requires) in
    rw (← c.self.view_is) (get_or_read rows c.args.place c.index.result.now lt c.index.ensures [] ∙ sym (row_there c.args.place rows lt))
