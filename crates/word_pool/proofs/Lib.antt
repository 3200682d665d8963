pub mod Freed
pub mod Cutting
