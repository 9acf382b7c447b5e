pub mod GenLaws
pub mod KeptOrderLaws
pub mod LinkLaws
pub mod OnceLaws
pub mod RelinkedRun
pub mod RunLaws
pub mod ServedLaws
pub mod TakenLaws
mod Vectors
pub mod WordsLaws
