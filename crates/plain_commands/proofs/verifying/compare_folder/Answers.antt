use Rattle.std.proofs.Common.{◌∙◌, ap}
use Rattle.outside.specs.Effects.{world_of}
use Rattle.ss_text.specs.Texts.{Text}
use Rattle.view_folder.specs.Comparison.{comparison}
use Rattle.plain_commands.proofs.VerifyLemmas.{compared_ends}
use Rattle.plain_commands.proofs.verifying.compare_folder.Goals as goal

pub returns-clause-ended : goal.returns-clause-ended
returns-clause-ended g c = λ t told.
    compared_ends c.in_ok-comparison.comparison _ _ (world_of (g.F.Folders.state c.compare.new.store) (g.K.Sink.state c.args.output.now)) _ _
    (c.in_ok-comparison.ensures.told t told ∙ ap (λ (d : Text). comparison d c.args.files.now t) c.in_ok-folder.ensures)
    (c.in_ok-comparison.ensures.does (g.K.Sink.state c.args.output.now))
    (c.print_comparison.ensures.ended (g.F.Folders.state c.compare.new.store))
