pub mod Faults
pub mod Growing
pub mod Scrubbed
pub mod Copying
pub mod Closing
