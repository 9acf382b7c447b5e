pub mod NameRefusalLaws
mod Vectors
