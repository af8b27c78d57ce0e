pub mod Moment
pub mod Calendar
pub mod Parts
