pub mod FolderLemmas
pub mod LineLemmas
pub mod TellingLemmas
pub mod ApplyLemmas
pub mod CourseLemmas
pub mod PipeLemmas
