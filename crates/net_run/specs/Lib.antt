pub mod Seeing
pub mod Keeping
pub mod Advancing
pub mod Writing
pub mod Capturing
