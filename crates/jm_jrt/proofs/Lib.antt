mod EndLaws
pub mod FileLaws
pub mod FaultLaws
pub mod PairLaws
pub mod LinkLaws
mod SessionVectors
pub mod StandingLaws
mod StatVectors
pub mod Vectors
pub mod FramedLaws
pub mod FreeLaws
pub mod LineLaws
pub mod ListLaws
pub mod OwnerLaws
pub mod WithinLaws
pub mod SessionEnds
pub mod SessionSteps
pub mod TakenLaws
pub mod ServeErrors
pub mod TellsLaws
pub mod ToldLaws
mod TreeCases
mod TreeContents
mod TreeFiles
pub mod TreeLaws
mod TreeNames
mod TreeNodes
mod TreeOwners
mod TreeWords
mod TreeVectors
