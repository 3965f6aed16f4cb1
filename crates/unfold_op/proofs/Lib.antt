pub mod Added
mod Answered
pub mod BagMoves
mod Changes
pub mod Clashes
pub mod CountLemmas
pub mod Counting
pub mod FactCells
pub mod LabelsBorne
pub mod LegalColumns
pub mod NetConflict
pub mod NetIllegal
pub mod NetLines
pub mod OneValue
pub mod Picked
pub mod Prepared
pub mod Present
mod Refused
mod RowMoves
pub mod SameKeptLemmas
pub mod StoredLemmas
pub mod TableLaw
pub mod TouchedLines
