pub mod Behind
pub mod Law
pub mod Promises
