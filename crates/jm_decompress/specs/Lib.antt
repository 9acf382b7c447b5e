pub mod Decompressed
pub mod FiledDecompressed
pub mod Steps
