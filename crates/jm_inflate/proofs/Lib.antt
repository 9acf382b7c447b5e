mod AdlerVectors
mod CodeVectors
mod CrcVectors
mod LengthVectors
pub mod AdlerLaws
pub mod BitLaws
pub mod BitRuns
pub mod BlockLaws
pub mod CodeLaws
pub mod CountLaws
pub mod CrcLaws
pub mod FewerLaws
pub mod FixedLaws
pub mod GiveLaws
pub mod InflateLaws
pub mod ItemLaws
pub mod LengthLaws
pub mod ReadLaws
pub mod SpaceLaws
pub mod StopLaws
pub mod StoredLaws
pub mod StreamVectors
pub mod SymbolLaws
pub mod ZlibLaws
