use Rattle.outside.specs.Tree.{file_at}
use Rattle.csv_catalog.proofs.FoundLemmas.{none_found}
use Rattle.csv_catalog.proofs.found.found_file.Goals as goal

pub returns-in-Ok-None-clause-found : goal.returns-in-Ok-None-clause-found
returns-in-Ok-None-clause-found g c = λ t h. none_found 67108864 (file_at t c.args.folder.now c.args.file.now) ((rw c.in-Ok-None.field-0-is at c.in-Ok-None.ensures.told) t h)

pub returns-in-Some-clause-found : goal.returns-in-Some-clause-found
returns-in-Some-clause-found g c = λ t h. (rw c.in-Some.is at c.in_ok-found.ensures) (file_at t c.args.folder.now c.args.file.now) ((rw c.in-Ok-Some.field-0-is at c.in-Ok-Some.ensures.told) t h)
