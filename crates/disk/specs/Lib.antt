pub mod Disk
pub mod MemDiskLaws
pub mod MemDisks
pub mod Moments
