pub mod FedLemmas
pub mod LineLemmas
pub mod RefusedLemmas
pub mod StopLemmas
pub mod TurnLemmas
pub mod WithinLemmas
