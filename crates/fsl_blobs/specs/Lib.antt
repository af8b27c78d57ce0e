pub mod Fold
pub mod Held
pub mod Seen
pub mod Content
pub mod Kept
pub mod Listing
pub mod Laws
