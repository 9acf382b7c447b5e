pub mod AllKept
pub mod CompactClass
pub mod CutLaws
pub mod FormTokens
pub mod KeptSlots
pub mod KeptTexts
pub mod Names
pub mod NumberSteps
pub mod NewNumbers
pub mod PutTogether
pub mod Shapes
pub mod SiteSteps
pub mod Sizes
pub mod Tokens
pub mod Trees
mod Vectors
pub mod WholeText
