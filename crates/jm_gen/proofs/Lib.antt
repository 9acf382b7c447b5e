pub mod DrawLaws
pub mod FileLaws
pub mod NameLaws
pub mod Vectors
