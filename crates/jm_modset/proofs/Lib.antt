pub mod FileLaws
pub mod FitLaws
pub mod ItemLaws
pub mod NameLaws
pub mod ReadLaws
pub mod SetLaws
pub mod ToldLaws
