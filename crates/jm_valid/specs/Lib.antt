pub mod Marks
pub mod Opened
pub mod Parts
pub mod Passages
pub mod Ranges
pub mod Sections
pub mod Sweep
pub mod Texts
