pub mod WorkedRows
pub mod LevelLemmas
pub mod KeptLemmas
pub mod TakingLemmas
pub mod OpeningLemmas
