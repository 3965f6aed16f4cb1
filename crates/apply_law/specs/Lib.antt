pub mod Verdicts
pub mod Standing
