pub mod ContentLaws
pub mod DecompressLaws
pub mod GivenBackLaws
pub mod HeldLaws
pub mod OnceLaws
pub mod ResourceLaws
pub mod Vectors
