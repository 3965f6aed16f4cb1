pub mod Cells
pub mod Sources
pub mod Headers
pub mod Tests
pub mod Bases
pub mod Forms
