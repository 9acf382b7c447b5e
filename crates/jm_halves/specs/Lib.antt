pub mod ComputedPieces
pub mod First
