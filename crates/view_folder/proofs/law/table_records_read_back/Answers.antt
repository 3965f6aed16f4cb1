use Rattle.view_folder.proofs.FormLemmas.{written_sound, written_read, records_are}
use Rattle.view_folder.proofs.law.table_records_read_back.Goals as goal

pub returns-clause-sound : goal.returns-clause-sound
returns-clause-sound c = λ shape file t form has. written_sound shape form t has file

pub returns-clause-back : goal.returns-clause-back
returns-clause-back c = λ shape t form has. written_read shape form t has

pub returns-clause-are : goal.returns-clause-are
returns-clause-are c = λ shape file records form sound. records_are shape form file records sound
