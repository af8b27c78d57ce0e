pub mod Table
pub mod Artifacts
pub mod Arrival
