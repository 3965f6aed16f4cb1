pub mod Counted
pub mod Synced
pub mod Law
