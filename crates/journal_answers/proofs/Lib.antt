pub mod ActLemmas
pub mod AskLemmas
pub mod EndLemmas
pub mod JournalLemmas
pub mod MadeLemmas
pub mod OpeningLemmas
pub mod TakeLemmas
