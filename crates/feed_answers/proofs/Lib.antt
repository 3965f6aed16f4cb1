pub mod ArrivalLemmas
pub mod FeedLemmas
pub mod ReplyLemmas
pub mod TellLemmas
pub mod NumberLemmas
