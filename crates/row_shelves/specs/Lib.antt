pub mod Stocks
pub mod Fronts
pub mod Shelves
pub mod Blanks
pub mod Stocked
pub mod Values
