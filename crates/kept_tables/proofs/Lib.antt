pub mod SlotLemmas
pub mod RoomLemmas
pub mod MadeLemmas
pub mod WaitLemmas
pub mod OpeningLemmas
pub mod ThereLemmas
