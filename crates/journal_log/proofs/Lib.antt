pub mod LogLemmas
pub mod ReplayLemmas
