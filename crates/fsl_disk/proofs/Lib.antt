pub mod Moments
mod Failing
pub mod Fronting
pub mod Pieces
mod Recording
mod Places
mod Stopping
