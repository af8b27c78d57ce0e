pub mod Lines
pub mod Reports
pub mod Refusals
pub mod Answers
pub mod Summary
pub mod Listings
pub mod Gathering
pub mod Info
