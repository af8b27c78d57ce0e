pub mod Tickets
pub mod Seen
pub mod Newest
pub mod NewestOrder
pub mod FieldOrder
pub mod Kept
pub mod Walked
