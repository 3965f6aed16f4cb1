use Rattle.std.proofs.Common.{◌∙◌, ap}
use Rattle.view_def.specs.Tree.{tree_of}
use Rattle.view_def.specs.declared.written.ViewText.{ViewText}
use Rattle.view_stages.specs.Stages.{typed_or_refused}
use Rattle.view_stages.proofs.DefinitionLemmas.{read_as}
use Rattle.view_stages.proofs.definition.understand.Goals as goal

pub returns-in_ok-understood-in-Ok : goal.returns-in_ok-understood-in-Ok
returns-in_ok-understood-in-Ok c = λ d reading.
    read_as c.args.bytes.now (tree_of c.in-Ok.text) _ d c.in-Ok.ensures.read c.in-Ok.ensures.whole
    (c.in_ok-understood-in-Ok.ensures ∙ ap (λ (v : ViewText). typed_or_refused (tree_of v)) c.in_ok-text-in-Ok.ensures.ok) reading
