pub mod HeadLaws
pub mod IndexLaws
pub mod MarkLaws
pub mod OrderLaws
pub mod ViewLaws
pub mod WalkLaws
