use Rattle.std.proofs.Common.{◌∷◌, []}
use Rattle.outside.specs.Effects.{Replace, world_of}
use Rattle.view_folder.specs.Files.{view_folder}
use Rattle.view_folder.specs.Sync.{later_edits}
use Rattle.ss_print.specs.Printing.{prints_applied}
use Rattle.plain_commands.specs.Applying.{synced_count}
use Rattle.plain_commands.proofs.OutcomeLemmas.{then_does}
use Rattle.plain_commands.proofs.lines.Applying.write_named.Goals as goal

pub returns-clause-does : goal.returns-clause-does
returns-clause-does g c =
    let a = c.args.self.now in
    let stored = g.F.Folders.state c.sync_named.new.store in
    let held = g.K.Sink.state c.args.output.now in
    then_does (Replace (later_edits (view_folder a.view_db) a.shape a.tables a.named)) (prints_applied a.lines (synced_count a) ∷ []) (world_of (g.F.Folders.state c.args.store.now) held) (world_of stored held) (world_of stored (g.K.Sink.state c.print_counts.new.output)) c.print_counts.result
    (c.in_ok-sync_named.ensures.does held) (c.print_counts.ensures.does stored)
