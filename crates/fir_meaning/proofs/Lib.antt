pub mod MemoryLeaves
pub mod MemoryWays
pub mod Initialized
pub mod Literals
pub mod Nexts
mod ExampleOfARun
pub mod Settling
pub mod Ports
pub mod Chains
pub mod Blocks
pub mod Sides
pub mod Covering
pub mod Tracking
pub mod Equations
mod Samples
mod Examples
mod ExamplesOfParts
mod ExamplesOfMemories
mod ExamplesOfLoops
mod ExamplesOfStates
