pub mod NetRows
pub mod OneForms
pub mod EachForms
pub mod FactForms
pub mod Standing
pub mod RowLimits
mod SameRows
mod Often
mod Adding
pub mod Products
pub mod ElementsFew
pub mod FactsFew
pub mod FactsForm
