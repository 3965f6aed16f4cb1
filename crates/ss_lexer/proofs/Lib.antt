mod Rows
pub mod LengthLemmas
pub mod Spans
pub mod TokenLemmas
pub mod Chunks
pub mod RealLexemes
