pub mod Joined
pub mod Partners
pub mod Groups
pub mod Walks
pub mod Ready
pub mod Joins
pub mod JoinFields
