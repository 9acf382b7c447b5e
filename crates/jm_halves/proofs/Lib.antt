pub mod Borders
pub mod Least
pub mod Zipped
