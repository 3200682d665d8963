pub mod Composition
pub mod Depth
pub mod Sources
pub mod Takes
pub mod Called
pub mod Suffixes
pub mod LineTables
pub mod Ascii
