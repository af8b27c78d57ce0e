pub mod Grammar
pub mod Answers
pub mod Places
