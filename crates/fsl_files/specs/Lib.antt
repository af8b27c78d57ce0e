pub mod Files
pub mod Conditions
pub mod Walks
pub mod Touches
pub mod Kept
pub mod Before
pub mod At
pub mod Same
