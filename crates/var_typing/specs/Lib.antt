pub mod Refusals
pub mod Scope
pub mod Folds
pub mod Declarations
pub mod Header
pub mod Terms
pub mod Typed
