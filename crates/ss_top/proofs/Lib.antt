pub mod CourseLemmas
pub mod DefinedLemmas
pub mod JournalLemmas
pub mod KeepLemmas
pub mod LeaveLemmas
pub mod RefusedLemmas
pub mod TopLemmas
pub mod WordLemmas
