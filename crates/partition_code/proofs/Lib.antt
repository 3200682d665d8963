mod Changes
pub mod Owners
pub mod Places
pub mod Cycles
pub mod Asked
mod Back
pub mod Placed
mod Left
mod Writes
mod Captures
mod Nexts
mod Registers
pub mod StateCycles
pub mod Whole
pub mod PortsLeft
pub mod Parts
pub mod Blocks
pub mod Lists
pub mod Apart
pub mod Standing
pub mod Told
pub mod Publishing
pub mod SplitParts
pub mod Seen
pub mod Turns
pub mod Segmenting
