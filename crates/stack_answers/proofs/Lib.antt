mod WorkedRows
pub mod AnswerLemmas
pub mod DefinitionLemmas
pub mod FolderLemmas
pub mod OpeningLemmas
pub mod PerformingLemmas
pub mod StackLemmas
pub mod StackingLemmas
