pub mod Parts
pub mod Spelling
pub mod Lines
pub mod Taking
