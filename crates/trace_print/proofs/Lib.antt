pub mod Declared
pub mod LeafLines
pub mod Pairs
pub mod Examples
