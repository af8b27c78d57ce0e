pub mod Manifests
pub mod Parts
pub mod Writing
