pub mod Kinds
pub mod Parts
pub mod WellFormed
pub mod Writing
