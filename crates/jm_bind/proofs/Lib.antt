pub mod BoundLaws
pub mod NodeLaws
