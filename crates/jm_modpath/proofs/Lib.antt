pub mod FolderLaws
pub mod FoundLaws
pub mod ListedLaws
pub mod ModulesLaws
pub mod PathLaws
pub mod PathVectors
pub mod StepLaws
pub mod TextCuts
