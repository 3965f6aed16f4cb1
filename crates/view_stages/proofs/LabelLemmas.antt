-- What the labels of tables tell.
use Rattle.std.proofs.Common.{◌≡◌, Option, None, Some, Bor, is_some, ap, ◌∙◌}
use Rattle.std.specs.Prelude.{option_map}
use Rattle.std.specs.Option.{option_copied}
use Rattle.std.proofs.lemmas.Map.Made.{is_some-lookup}
use Rattle.ss_text.specs.Texts.{Text, text_eq, is_in}
use Rattle.flow_law.specs.Tables.{TableValue, TablesValue, labels_of, table_of}
use Rattle.kept_tables.specs.Kept.{KeptTableValue}

-- what is borrowed is there where it is
kept_there : (o : Option (Bor KeptTableValue)) (t : Option TableValue) → option_map (λ (k : KeptTableValue). k.table) (option_copied o) ≡ t → is_some o ≡ is_some t
kept_there None t e = ap is_some e
kept_there (Some x) t e = ap is_some e

-- a table is found where its label is among the labels
pub has_label : (o : Option (Bor KeptTableValue)) (ts : TablesValue) (label : Text) → option_map (λ (k : KeptTableValue). k.table) (option_copied o) ≡ table_of ts label → is_some o ≡ is_in label (labels_of ts)
has_label o ts label e = kept_there o (table_of ts label) e ∙ is_some-lookup (text_eq label) ts
