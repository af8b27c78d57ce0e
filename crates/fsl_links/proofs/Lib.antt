pub mod Crossing
pub mod Canonical
pub mod Changed
pub mod Facts
pub mod Leads
pub mod Moving
pub mod Reading
pub mod Waiting
