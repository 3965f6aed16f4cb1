pub mod Behind
pub mod Law
pub mod Lists
pub mod Promises
pub mod OneView
