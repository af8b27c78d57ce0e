mod Appended
pub mod Belonging
mod Besides
pub mod Standing
mod Kept
mod Lengths
mod Placing
mod Rereading
mod Versions
mod Ends
pub mod Failing
mod Files
mod Gate
mod Gates
mod Groups
mod Grouping
mod Making
mod Opening
mod Pending
mod Walking
mod Records
pub mod SomeFile
pub mod Unique
mod Living
mod Shown
mod Still
mod Turning
mod Walked
