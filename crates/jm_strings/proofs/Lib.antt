pub mod TableLaws
