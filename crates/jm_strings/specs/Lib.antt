pub mod Limit
pub mod Table
