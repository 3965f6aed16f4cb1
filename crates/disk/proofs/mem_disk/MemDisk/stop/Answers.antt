use Rattle.std.proofs.Common.{refl}
use Rattle.disk.specs.MemDisks.{content_of}
use Rattle.disk.specs.MemDiskLaws.{told_reads}
use Rattle.disk.proofs.FillLemmas.{filled_image}
use Rattle.disk.proofs.mem_disk.MemDisk.stop.Goals as goal

pub returns-clause-image : goal.returns-clause-image
returns-clause-image c = filled_image c.args.fill (content_of c.args.self.now) (told_reads c.args.self.now (content_of c.args.self.now) refl)

pub returns-in_err-image-clause-image : goal.returns-in_err-image-clause-image
returns-in_err-image-clause-image c = filled_image c.args.fill (content_of c.args.self.now) (told_reads c.args.self.now (content_of c.args.self.now) refl)
