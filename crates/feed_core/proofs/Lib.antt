pub mod KeptLemmas
pub mod HandledLemmas
pub mod TurnLemmas
pub mod PackedLemmas
