pub mod Chain
pub mod Lives
pub mod Openings
