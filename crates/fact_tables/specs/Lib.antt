pub mod Parts
pub mod Cells
pub mod Held
pub mod Next
pub mod Counted
pub mod Conflicts
