pub mod Packed
pub mod PackedText
