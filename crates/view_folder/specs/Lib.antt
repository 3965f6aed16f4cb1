pub mod Files
pub mod Sync
pub mod TableFiles
pub mod Comparison
pub mod Records
pub mod Held
pub mod Forms
pub mod Fields
