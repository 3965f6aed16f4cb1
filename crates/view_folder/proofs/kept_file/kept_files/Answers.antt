use Rattle.ss_text.specs.Texts.{Text}
use Rattle.flow_law.specs.Tables.{TableValue}
use Rattle.kept_tables.proofs.ThereLemmas.{each_there}
use Rattle.view_folder.specs.TableFiles.{table_files, FitsShape}
use Rattle.view_folder.proofs.KeptFileLemmas.{files_more}
use Rattle.view_folder.proofs.kept_file.kept_files.Goals as goal

pub loop-slot-init : goal.loop-slot-init
unfolding table_files
loop-slot-init c = c.new-files.ensures.items

pub push_file-requires : goal.push_file-requires
push_file-requires c =
    each_there (λ (p : Text × TableValue). FitsShape c.args.shape.now p.1) c.args.slots.now c.loop-slot.slot-index c.slot-item.result c.loop-slot-test.true c.slot-item.is c.requires

pub loop-slot-preserved : goal.loop-slot-preserved
loop-slot-preserved c =
    files_more c.args.shape.now c.args.slots.now c.loop-slot.slot-index c.slot-item.result c.loop-slot.files.items _ c.loop-slot-test.true c.slot-item.is c.loop-slot.invariant c.in_ok-push_file.ensures
