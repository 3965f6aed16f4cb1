use Rattle.std.specs.Option.{option_copied}
use Rattle.view_stack.proofs.CodeLemmas.{text_there, text_elsewhere}
use Rattle.view_stack.proofs.key_texts.KeyTexts.found.Goals as goal

pub returns-in-Some : goal.returns-in-Some
returns-in-Some c =
    let self = c.args.self.now in
    text_there self.constants.now self.columns.now self.key.now self.cells.now c.args.name.now c.in-Some.place (option_copied c.text_at.result) c.in-Some.ensures c.text_at.ensures

pub returns-in-None : goal.returns-in-None
returns-in-None c =
    let self = c.args.self.now in
    text_elsewhere self.constants.now self.columns.now self.key.now self.cells.now c.args.name.now _ c.in-None.ensures c.cell_in.ensures
