pub mod Files
pub mod Found
pub mod Infos
pub mod Parts
pub mod Set
pub mod Shown
