pub mod Levels
pub mod Values
pub mod States
pub mod Opening
pub mod Taking
pub mod Laws
