pub mod Told
pub mod Lines
pub mod Ids
pub mod Numerals
pub mod Sayings
pub mod Readings
pub mod Steps
pub mod Parted
