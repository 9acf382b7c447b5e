pub mod FlagLaws
pub mod OrderLaws
pub mod PairLaws
