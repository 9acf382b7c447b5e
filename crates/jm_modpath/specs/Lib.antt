pub mod Finding
pub mod FoundView
pub mod Listed
pub mod Modules
pub mod ModulesView
