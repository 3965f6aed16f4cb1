pub mod Stands
pub mod Limits
pub mod Putting
pub mod Records
pub mod Lifted
pub mod Laws
pub mod Stacks
pub mod Told
