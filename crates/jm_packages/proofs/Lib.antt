pub mod ListedLaws
pub mod Loops
pub mod MorePool
pub mod MoreInfo
pub mod PackagedLaws
mod PartLaws
pub mod SaidLaws
mod Vectors
pub mod WholeLaws
