pub mod Threads
pub mod Kept
pub mod Held
pub mod Rows
pub mod Reached
