mod Commits
mod Ends
mod Loads
mod Tried
mod Tries
