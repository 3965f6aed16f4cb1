use Rattle.flow_law.proofs.ScriptLaw.{unnamed_table_stays}
use Rattle.change_script.proofs.law.unnamed_tables_stay.Goals as goal

pub returns : goal.returns
returns c = λ old new label h i apart. unnamed_table_stays label old new h i apart
