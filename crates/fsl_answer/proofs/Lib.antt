pub mod Keeping
mod ReplyLemmas
