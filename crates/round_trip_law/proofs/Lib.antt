mod WorkedRows
pub mod Members
pub mod CellLemmas
pub mod Entries
pub mod SourceLemmas
pub mod RelationLemmas
pub mod TargetLemmas
pub mod RefusedLemmas
pub mod TablesKept
pub mod TablesLaw
pub mod ValuesAt
pub mod RefusedColumns
pub mod ColumnsKept
pub mod ColumnsLaw
pub mod ThroughLemmas
pub mod WideLemmas
pub mod WideLaw
pub mod ProfileLemmas
