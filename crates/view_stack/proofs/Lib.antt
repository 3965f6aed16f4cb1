mod WorkedRows
pub mod SaysLemmas
pub mod MovedLemmas
pub mod LinesLemmas
pub mod ScriptLemmas
pub mod StandsLemmas
pub mod LimitLemmas
pub mod LawLemmas
pub mod PutLemmas
pub mod SlotLemmas
pub mod CodeLemmas
pub mod SoundLemmas
pub mod StackLemmas
pub mod ToldLemmas
