pub mod BodiesLaws
pub mod DescriptionLaws
pub mod InfoFaultLaws
pub mod InfoLaws
pub mod KeptLaws
pub mod SaysLaws
pub mod Stops
mod Vectors
pub mod WrittenLaws
pub mod WrittenLoops
