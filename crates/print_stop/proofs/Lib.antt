pub mod LowDigits
pub mod Turns
mod Examples
pub mod Bits
pub mod Enabling
pub mod Follows
pub mod Typed
pub mod Heads
pub mod Arguments
mod WireExamples
pub mod Leaves
pub mod Agreeing
pub mod Telling
pub mod Rows
pub mod Once
