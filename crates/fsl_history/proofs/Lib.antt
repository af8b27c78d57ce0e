pub mod Lists
pub mod Beside
pub mod Keeps
pub mod Keeper
