pub mod ExtentLaws
pub mod FileLaws
pub mod FileOrderLaws
pub mod FirstReadLaws
pub mod FrontLaws
pub mod OrderVectors
pub mod TakingLaws
