pub mod Kinds
pub mod Strip
pub mod Walks
