pub mod Members
pub mod Graphs
mod Cycles
mod Examples
mod Finding
pub mod Heads
mod Meaning
mod Telling
pub mod Reached
mod Walking
pub mod Agreement
