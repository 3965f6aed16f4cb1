pub mod Arrivals
pub mod Handled
pub mod Kept
pub mod Numbered
pub mod Replies
pub mod Turns
pub mod Packed
