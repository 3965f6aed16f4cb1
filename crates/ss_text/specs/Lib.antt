pub mod Texts
pub mod Ascending
pub mod Places
pub mod Label
pub mod Whole
pub mod Keys
mod Held
pub mod Front
pub mod Seeds
