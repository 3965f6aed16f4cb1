pub mod DraftLemmas
pub mod RowsLaw
