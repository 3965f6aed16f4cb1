mod WorkedRows
pub mod TableLemmas
pub mod RowLemmas
pub mod LabelLemmas
pub mod FillLemmas
pub mod CellLemmas
pub mod StepLemmas
pub mod GroupLemmas
pub mod TableScript
pub mod ScriptLaw
pub mod Entries
pub mod ConflictLemmas
pub mod RefusedLemmas
pub mod SameFacts
pub mod FactTableLemmas
pub mod FactRowLemmas
