pub mod DraftLaws
pub mod RuleLaws
pub mod ValueLaws
pub mod Vectors
