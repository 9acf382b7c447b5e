pub mod Filings
pub mod Fronts
pub mod FrontTrees
pub mod Order
pub mod PackagePaths
pub mod Refusals
