mod FitMoves
mod WholeTables
mod Grouped
mod Columns
mod PartLaw
mod PartMoves
mod Committing
mod Readying
mod LabelFacts
mod Judging
mod FirstFound
mod SplitMoves
pub mod SplitKeeps
mod Adding
pub mod LabelScript
pub mod LabelConflict
pub mod NamedTables
pub mod LabelIllegal
