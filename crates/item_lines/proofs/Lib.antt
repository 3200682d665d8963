pub mod Formats
pub mod Lines
pub mod Naming
pub mod Nodes
pub mod Reading
mod Examples
