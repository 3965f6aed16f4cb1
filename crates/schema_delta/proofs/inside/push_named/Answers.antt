use Rattle.std.proofs.Common.{◌++◌, ◌∷◌, [], ap, ◌∙◌, map}
use Rattle.ss_text.specs.Texts.{Row}
use Rattle.fold_op.specs.Sheets.{SheetValue}
use Rattle.fold_op.specs.Flat.{pick_value}
use Rattle.unite_op.specs.NamedThings.{rows_behind}
use Rattle.schema_delta.proofs.BehindLemmas.{behind_both}
use Rattle.schema_delta.proofs.inside.push_named.Goals as goal

pub returns : goal.returns
returns c =
    let x : SheetValue = (c.args.attributes.now, map (λ r. r.now) c.args.rows.now) in
    let cells = pick_value (c.args.name.now ∷ []) x in
    c.in_ok-push_all_picked.ensures
    ∙ ap (λ (w : Row). c.args.flat.now.items ++ rows_behind c.in_ok-names.names (pick_value w x)) (c.in_ok-wanted.ensures)
    ∙ ap (λ (n : Row). c.args.flat.now.items ++ rows_behind n cells) (c.in_ok-names.ensures)
    ∙ ap (λ rows. c.args.flat.now.items ++ rows) (behind_both c.args.names.now (c.args.name.now ∷ []) cells)
