pub mod Blocks
pub mod Parts
pub mod Brackets
pub mod Suffixes
pub mod Depth
pub mod EmptyBlocks
