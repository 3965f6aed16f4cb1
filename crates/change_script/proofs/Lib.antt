mod WorkedRows
pub mod BetweenLemmas
pub mod AppliedLaw
pub mod ApplyLemmas
pub mod ReadingLemmas
pub mod FitLemmas
