pub mod Declared
pub mod Numbered
