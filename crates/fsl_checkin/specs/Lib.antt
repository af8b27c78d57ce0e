pub mod Trees
pub mod Reading
pub mod Sums
pub mod Checkins
pub mod Exports
pub mod Reads
pub mod Having
pub mod Laws
