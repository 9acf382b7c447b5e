pub mod ExtractLaws
pub mod FiledLaws
pub mod FrontNames
pub mod PathLaws
pub mod RefusalLaws
pub mod SizeLaws
mod Vectors
