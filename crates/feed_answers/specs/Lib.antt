pub mod Answers
pub mod Fields
pub mod Limits
pub mod Steps
pub mod Lines
