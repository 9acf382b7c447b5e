pub mod Choosing
pub mod Entries
pub mod Files
pub mod Gathering
pub mod Groups
pub mod Judging
pub mod Modules
pub mod Packages
