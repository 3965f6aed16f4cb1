pub mod Answers
pub mod Fields
pub mod Kept
pub mod Limits
pub mod Opening
pub mod Statuses
pub mod Steps
