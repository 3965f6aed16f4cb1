use Rattle.std.proofs.Common.{◌∙◌, ◌-◌, ◌++◌, ◌∷◌, [], ap, arith}
use Rattle.row_shelves.specs.Shelves.{on_shelf}
use Rattle.row_shelves.proofs.SameLemmas.{last_pushed}
use Rattle.row_shelves.proofs.append.append_last.Goals as goal

pub returns-clause-rows : goal.returns-clause-rows
returns-clause-rows c =
    let shelf = c.index_mut-shelf.result.now in
    last_pushed on_shelf c.args.shelves.now.items (c.len-last.result - 1) shelf c.push.new.self c.args.row (omega (arith, c.len-last.ensures, c.args.shelves.now.ok.0, c.requires.there))
    (c.push.ensures.items ∙ ap (λ s. on_shelf s ++ c.args.row ∷ []) c.index_mut-shelf.ensures.value)
