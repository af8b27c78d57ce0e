pub mod Crossing
pub mod Canonical
pub mod Changing
pub mod Placing
pub mod Timelines
