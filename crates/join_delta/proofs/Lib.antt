pub mod Walk
pub mod Bilinear
pub mod Sides
pub mod Moved
pub mod Crossed
