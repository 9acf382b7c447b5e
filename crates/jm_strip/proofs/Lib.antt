pub mod Heads
pub mod Kept
pub mod KindLaws
pub mod Opaques
pub mod PutLists
pub mod Shorter
pub mod Shown
pub mod StripLaws
mod Vectors
pub mod WholeLaws
