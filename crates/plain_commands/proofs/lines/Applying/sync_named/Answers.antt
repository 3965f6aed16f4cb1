use Rattle.std.proofs.Common.{◌∷◌, [], ap, sym}
use Rattle.outside.specs.Effects.{Replace}
use Rattle.outside.proofs.EffectLemmas.{performs_as}
use Rattle.view_folder.specs.Files.{view_folder}
use Rattle.view_folder.specs.Sync.{later_edits}
use Rattle.plain_commands.proofs.lines.Applying.sync_named.Goals as goal

pub returns : goal.returns
returns g c =
    let a = c.self.inside in
    rw (← c.self.view_is) (performs_as _ _ _ _ _ (ap (λ named. Replace (later_edits (view_folder a.view_db) a.shape a.tables named) ∷ []) (sym c.deref.ensures.value)) c.sync_at_once.ensures)
