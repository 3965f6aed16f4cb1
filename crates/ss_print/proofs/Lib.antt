pub mod PrintingLemmas
pub mod LevelLineLemmas
