pub mod BagFields
pub mod RowCounts
pub mod Faults
