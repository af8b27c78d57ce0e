pub mod Crossing
pub mod Canonical
pub mod Counting
pub mod Facts
pub mod Kinship
pub mod Reading
