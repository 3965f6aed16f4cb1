pub mod Flat
pub mod Given
pub mod OneRow
pub mod Net
pub mod Cancelled
