pub mod PartLemmas
pub mod SpellingLemmas
pub mod LineLemmas
mod WindowLemmas
pub mod TakingLemmas
mod Rows
