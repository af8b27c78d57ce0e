pub mod Receipts
pub mod Brought
pub mod Records
pub mod Groups
pub mod Reading
pub mod Laws
