pub mod Binding
pub mod Nodes
