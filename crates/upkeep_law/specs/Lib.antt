pub mod Behind
pub mod Given
pub mod Law
pub mod Lists
pub mod Promises
