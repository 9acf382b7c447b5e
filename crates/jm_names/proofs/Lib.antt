pub mod ByteSearches
pub mod CharacterLaws
pub mod ComputedFaultLaws
pub mod ComputedTextLaws
pub mod HashLaws
pub mod JoinLaws
pub mod KeyLaws
pub mod NameOrder
mod OrderVectors
pub mod ShownLaws
pub mod UtfLaws
pub mod UtfPlain
pub mod UtfRule
pub mod UtfSteps
pub mod Vectors
