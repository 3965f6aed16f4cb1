use Rattle.std.proofs.Common.{◌∷◌, [], ap, ◌∙◌}
use Rattle.ss_print.specs.Printing.{prints_applied}
use Rattle.plain_commands.specs.Applying.{ApplyState, synced_count}
use Rattle.plain_commands.proofs.OutcomeLemmas.{does_as}
use Rattle.plain_commands.proofs.lines.Applying.print_counts.Goals as goal

pub returns-clause-does : goal.returns-clause-does
returns-clause-does g c = λ s.
    does_as _ _ _ _ _
    (ap (λ n. prints_applied c.self.inside.lines n ∷ []) c.synced_count.ensures ∙ ap (λ (a : ApplyState). prints_applied a.lines (synced_count c.args.self.now) ∷ []) c.self.view_is)
    (c.print_applied.ensures.does s)
