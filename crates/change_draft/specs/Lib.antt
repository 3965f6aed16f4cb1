pub mod Named
pub mod Counted
pub mod Drafts
pub mod Kept
