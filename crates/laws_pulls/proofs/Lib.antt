mod Gaining
mod Taking
mod Pulling
mod Clusters
mod Reaching
mod Telling
mod Both
mod Running
