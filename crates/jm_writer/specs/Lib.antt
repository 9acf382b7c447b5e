pub mod Drafts
pub mod Laid
pub mod Laying
pub mod Parts
pub mod Writable
