pub mod Between
pub mod Clauses
pub mod Commands
pub mod Journals
pub mod Promises
pub mod Runs
pub mod Together
