pub mod ClassSays
pub mod ComputedLiveLaws
pub mod FormSays
pub mod Loops
pub mod MarkLaws
pub mod NamePlaces
pub mod Vectors
