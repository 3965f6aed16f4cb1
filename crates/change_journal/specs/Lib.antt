pub mod Entries
pub mod Journals
pub mod Lines
pub mod Opening
pub mod Spelled
pub mod States
