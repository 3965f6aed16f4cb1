pub mod Logs
pub mod Replay
pub mod Room
