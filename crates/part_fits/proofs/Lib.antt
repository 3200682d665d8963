pub mod Filled
pub mod Slots
mod Parts
pub mod Declared
pub mod Seeing
pub mod Ordering
