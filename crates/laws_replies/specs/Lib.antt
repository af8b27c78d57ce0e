pub mod Clusters
pub mod Fits
pub mod Replies
