pub mod OneReading
pub mod Fronts
mod LineLemmas
mod FileLemmas
mod LoginLemmas
