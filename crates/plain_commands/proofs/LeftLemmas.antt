-- What the end of an input leaves of a view folder.
use Rattle.std.proofs.Common.{◌≡◌, ◌∷◌, ◌∙◌, [], Option, Some, refl, sym, ap}
use Rattle.outside.specs.States.{StoreState}
use Rattle.outside.specs.Streams.{with_bytes}
use Rattle.outside.specs.Tree.{Tree}
use Rattle.outside.specs.Effects.{World, Stored, Contents, contents, stored_of, world_of, Replace, after, performed}
use Rattle.outside.proofs.EffectLemmas.{told_tree}
use Rattle.view_folder.specs.Files.{view_folder}
use Rattle.view_folder.specs.Sync.{later_edits}
use Rattle.view_folder.proofs.LaterLemmas.{later, later_replaced, edits_held}
use Rattle.ss_print.specs.Printing.{prints_applied, lines_text, applied_rows}
use Rattle.plain_commands.specs.Applying.{ApplyState, synced_count, finish}
use Rattle.plain_commands.specs.Left.{IsLeft}

module _ (u : ApplyState) (t : Tree) (old new : World) (told : old.store.tree ≡ Some t) where
  abbrev at_first : Stored
  at_first = record { tree = t; writes = old.store.writes }

  abbrev at_last : Stored
  at_last = later (view_folder u.view_db) u.shape u.tables u.tables u.named at_first

  abbrev synced : StoreState
  synced = record { tree = Some at_last.tree; writes = at_last.writes; read_faults = 0; write_faults = 0 }

  first_is : contents old ≡ record { stored = Some at_first; held = old.output.held }
  unfolding contents
  first_is = ap (λ (o : Option Tree). record { stored = stored_of o old.store.writes; held = old.output.held }) told

  synced_is : contents (world_of synced old.output) ≡ after (Replace (later_edits (view_folder u.view_db) u.shape u.tables u.named)) (contents (world_of old.store old.output))
  unfolding contents
  synced_is = sym (ap (after (Replace (later_edits (view_folder u.view_db) u.shape u.tables u.named))) first_is ∙ later_replaced (view_folder u.view_db) u.shape u.tables u.tables u.named at_first old.output.held)

  left : contents new ≡ performed (finish u).effects (contents old) → contents new ≡ record { stored = Some at_last; held = with_bytes (lines_text (applied_rows u.lines (synced_count u))) old.output.held }
  left h =
      h ∙ ap (performed (finish u).effects) first_is
      ∙ ap (performed (prints_applied u.lines (synced_count u) ∷ [])) (later_replaced (view_folder u.view_db) u.shape u.tables u.tables u.named at_first old.output.held)

  pub is_left : contents new ≡ performed (finish u).effects (contents old) → IsLeft u t old new
  unfolding contents
  is_left h =
      let is = left h in
      record {
        tree = at_last.tree;
        told = told_tree new.store.tree new.store.writes at_last (ap (λ (x : Contents). x.stored) is);
        files = edits_held (view_folder u.view_db) u.shape u.tables u.named old.store synced t at_last.tree old.output told refl synced_is;
        printed = ap (λ (x : Contents). x.held) is;
      }
