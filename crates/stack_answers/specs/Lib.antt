pub mod Stack
pub mod Answers
pub mod Held
pub mod Opening
pub mod Definitions
pub mod Folders
pub mod Steps
