pub mod PairView
pub mod Pairs
