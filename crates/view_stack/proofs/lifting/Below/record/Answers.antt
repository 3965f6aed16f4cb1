use Rattle.std.proofs.Common.{◌≡◌, ◌∙◌, Option, map, ap, subst}
use Rattle.std.specs.Prelude.{IfOk, unwrap_or}
use Rattle.ss_text.specs.Texts.{Text}
use Rattle.flow_law.specs.Tables.{TableValue, empty_table}
use Rattle.view_stack.specs.Records.{text_of, text_after}
use Rattle.view_stack.proofs.CodeLemmas.{seen}
use Rattle.view_stack.proofs.lifting.Below.record.Goals as goal

pub returns : goal.returns
returns c =
    let constants = c.args.self.now.constants.now in
    let said = c.of-texts.ensures.texts ∙ ap (λ (o : Option TableValue). text_of constants (unwrap_or o empty_table) c.args.key.now) c.table_of.ensures in
    subst (λ (text : Text → Text). IfOk c.record.result (λ row. row ≡ map (λ name. text_after name (seen c.args.cells.now) (text name)) c.args.names.now)) said c.record.ensures
