pub mod Dates
pub mod EarlierNames
pub mod Rows
pub mod Texts
pub mod Orders
