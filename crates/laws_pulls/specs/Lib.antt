pub mod Pulls
pub mod Runs
pub mod Shown
