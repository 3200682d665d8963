pub mod Marking
pub mod Crossing
