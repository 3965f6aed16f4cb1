pub mod Numbers
pub mod Generator
pub mod Start
pub mod Runs
pub mod Summaries
