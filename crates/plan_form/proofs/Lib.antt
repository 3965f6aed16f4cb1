pub mod Columns
pub mod Steps
pub mod Conditions
pub mod Facts
pub mod Bases
