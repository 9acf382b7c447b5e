pub mod Extracted
pub mod Filed
pub mod Stops
