pub mod DoingLemmas
pub mod PutLemmas
pub mod ListLemmas
pub mod ListingLemmas
pub mod StopLemmas
pub mod SameListLemmas
pub mod EditedLemmas
pub mod WholeLemmas
