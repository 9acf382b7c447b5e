pub mod ComputedPlugins
pub mod Matching
pub mod Numbered
pub mod Packaging
pub mod Plugins
pub mod Steps
pub mod SystemModules
pub mod Turns
