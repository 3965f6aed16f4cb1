pub mod Appends
mod Gathering
pub mod GroupLemmas
pub mod Images
pub mod LineLemmas
pub mod Moments
pub mod OpeningLemmas
pub mod Outcomes
pub mod Readings
pub mod Spellings
