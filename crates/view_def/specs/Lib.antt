pub mod Conditions
pub mod Print
pub mod Profile
pub mod Query
pub mod RawConditions
pub mod Terms
pub mod Tree
pub mod Written
