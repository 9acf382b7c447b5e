pub mod Compact
pub mod Compacts
pub mod Meaning
pub mod Pieces
pub mod Steps
