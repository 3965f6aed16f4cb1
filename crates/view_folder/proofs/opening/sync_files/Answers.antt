use Rattle.std.proofs.Common.{◌≡◌, ◌∙◌, ap, sym}
use Rattle.outside.specs.Effects.{contents, performed, world_of}
use Rattle.outside.proofs.EffectLemmas.{performed_append}
use Rattle.outside.specs.Tree.{files_of}
use Rattle.view_folder.specs.Files.{other_names}
use Rattle.view_folder.specs.Sync.{written, removed}
use Rattle.view_folder.proofs.LaterLemmas.{nothing_held}
use Rattle.view_folder.proofs.OpeningLemmas.{all_held, others_counted}
use Rattle.view_folder.proofs.opening.sync_files.Goals as goal

pub returns-clause-holds : goal.returns-clause-holds
returns-clause-holds g c = λ t u told is.
    let folder = c.args.folder.now in
    let files = c.args.files.now in
    let names = c.deref.result.now in
    let old = contents (world_of (g.F.Folders.state c.args.store.now) nothing_held) in
    let others : names ≡ other_names files (files_of t folder) = c.deref.ensures.value ∙ c.in_ok-others.ensures ∙ ap (other_names files) (c.in_ok-names.ensures.told t told) in
    let wrote = c.in_ok-write_files.ensures.performs.does nothing_held ∙ ap (performed (written folder files)) (c.in_ok-names.ensures.does nothing_held) in
    all_held folder files c.requires (g.F.Folders.state c.args.store.now) (g.F.Folders.state c.remove_files.new.store) nothing_held t u told is
    (c.in_ok-removed.ensures.performs.does nothing_held ∙ ap (performed (removed folder names)) wrote
    ∙ ap (λ ns. performed (removed folder ns) (performed (written folder files) old)) others
    ∙ sym (performed_append (written folder files) (removed folder (other_names files (files_of t folder))) old))

pub returns-clause-count : goal.returns-clause-count
returns-clause-count g c = λ t told.
    others_counted c.args.folder.now c.args.files.now c.requires (g.F.Folders.state c.args.store.now) (g.F.Folders.state c.write_files.new.store) nothing_held t c.deref.result.now c.in_ok-removed.removed told
    (c.deref.ensures.value ∙ c.in_ok-others.ensures ∙ ap (other_names c.args.files.now) (c.in_ok-names.ensures.told t told))
    (c.in_ok-write_files.ensures.performs.does nothing_held ∙ ap (performed (written c.args.folder.now c.args.files.now)) (c.in_ok-names.ensures.does nothing_held))
    c.in_ok-removed.ensures.each
