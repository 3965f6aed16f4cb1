pub mod Kept
pub mod Ready
pub mod Slots
pub mod KeptTables
pub mod Waits
