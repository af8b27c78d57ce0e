pub mod UserFiles
pub mod Logins
pub mod OneReading
pub mod Reading
pub mod Judging
