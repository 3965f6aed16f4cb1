use Rattle.std.proofs.Common.{◌≡◌, ◌∙◌, ◌∷◌, [], sym, ap}
use Rattle.outside.specs.Effects.{Remove}
use Rattle.outside.proofs.EffectLemmas.{performs_as}
use Rattle.view_folder.specs.Sync.{label_synced}
use Rattle.view_folder.proofs.LaterLemmas.{synced_remove}
use Rattle.view_folder.proofs.later.sync_label.Goals as goal

pub returns-in_default-clause-performs : goal.returns-in_default-clause-performs
returns-in_default-clause-performs g c =
    let label = c.args.label.now in
    let same : label_synced c.args.folder.now c.args.shape.now (g.T.TableTexts.tables c.args.tables.now) label ≡ Remove c.args.folder.now c.in_ok-file.file =
    synced_remove c.args.folder.now c.args.shape.now (g.T.TableTexts.tables c.args.tables.now) label (sym c.in_default.is ∙ c.in_ok-text.ensures) ∙ ap (Remove c.args.folder.now) (sym c.in_ok-file.ensures) in
    performs_as _ _ _ _ _ (ap (λ e. e ∷ []) same) c.remove_file.ensures.performs
