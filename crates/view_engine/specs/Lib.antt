pub mod Forms
pub mod Engines
