pub mod Lines
pub mod Messages
pub mod Writing
pub mod Meanings
pub mod Fronts
pub mod Reading
pub mod Counts
pub mod Drafts
