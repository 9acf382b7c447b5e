pub mod FileOrder
pub mod Filed
pub mod FirstRead
pub mod Fronts
pub mod Parts
pub mod Taken
