pub mod ContentLaws
pub mod DescribedLaws
pub mod DigestLaws
pub mod ExtractLaws
pub mod FrontLaws
pub mod Gotten
pub mod ListingLaws
mod ListingVectors
pub mod Made
pub mod NodeLaws
pub mod OutcomeLaws
pub mod PieceLaws
pub mod PlainLaws
pub mod SessionLaws
pub mod StepLaws
mod Vectors
