pub mod PackageNames
pub mod Packages
