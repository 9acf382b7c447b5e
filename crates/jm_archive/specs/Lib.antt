pub mod ComputedFiles
pub mod Cuts
pub mod Files
pub mod Manifest
pub mod Places
