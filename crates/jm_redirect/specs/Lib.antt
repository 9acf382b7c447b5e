pub mod Built
pub mod Marks
pub mod Prefixes
pub mod Reached
pub mod Turns
