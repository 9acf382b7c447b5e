pub mod ChildLaws
pub mod ClashLaws
pub mod EndLaws
pub mod FilingLaws
pub mod FolderLaws
pub mod FrontLaws
pub mod MadeLaws
pub mod NameLaws
pub mod NodeLaws
pub mod OrderLaws
pub mod OwnerLaws
pub mod PathLaws
pub mod SharedLaws
pub mod SoundLaws
mod Vectors
