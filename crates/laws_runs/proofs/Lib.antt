mod Commits
mod Steps
mod SyncSteps
mod Chains
